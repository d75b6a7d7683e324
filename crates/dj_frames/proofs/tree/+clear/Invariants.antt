use Rattle.dj_frames.proofs.tree.+clear.Given as goal

abbrev pub decreases-clear : goal.decreases-clear
decreases-clear l = l.depth
