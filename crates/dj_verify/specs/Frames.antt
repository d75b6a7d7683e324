-- Frames of the code, seen from the tops of their stacks down.
use Rattle.std.specs.Prelude.{List, map}
use Rattle.dj_frames.specs.declared.frame.Frame as code_frame
use Rattle.dj_frames.specs.Frames.{view_frame}
use Rattle.dj_tags.specs.Goes.{Working, top_down}

-- a frame
abbrev pub working_of : code_frame.Frame → Working
working_of frame = top_down (view_frame frame)

-- frames in order
abbrev pub workings : List code_frame.Frame → List Working
workings frames = map top_down (map view_frame frames)
