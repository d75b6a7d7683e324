-- Where what is thrown lands.
use Rattle.std.proofs.Common.{◌≡◌, ◌↔◌, ℕ, ◌+◌, ◌<◌, List, [], ◌∷◌, ◌++◌, map, take, length, get_or, Option, Some, None, sym, ap, ◌∙◌, subst, arith, add-one}
use Rattle.std.specs.Prelude.{All, IsSomeAnd, option_map}
use Rattle.std.proofs.Math.Seq.{take-suc}
use Rattle.std.proofs.lemmas.List.Elements.{All-nil, All-cons, All-head, All-tail, All-append}
use Rattle.dj_frames.specs.Frames.{Tag, Frame}
use Rattle.dj_code.specs.declared.method_code.Handler.{Handler}
use Rattle.dj_code.specs.MethodCode.{Code}
use Rattle.dj_code.specs.Targets.{IsStart}
use Rattle.dj_tags.specs.Goes.{Assignability, Working, EntriesGo, FrameGoes, reversed, top_down}
use Rattle.dj_verify.specs.declared.landing.Landing.{Landing}
use Rattle.dj_verify.specs.Rules.{padded, frame_in, Covers, HandlerTakes}
use Rattle.dj_verify.specs.Landings.{Lands, IsTarget, IsLanding, AreLandings, target_in}
use Rattle.dj_verify.proofs.PaddedFrames.{goes_padded, map_append}

abbrev handler_of : Landing → Handler
handler_of landing = landing.handler.now

module _ (Goes : Assignability) (code : Code) (pc : ℕ) (caught : Tag) where
  abbrev thrown : Working → Working
  thrown frame = record frame { stack = caught ∷ [] }

  abbrev given_by : Working → Option Frame → Type 0
  given_by frame target = IsSomeAnd (option_map (λ f. padded code.max_locals (top_down f)) target) (FrameGoes Goes (thrown frame))

  -- no frame is given there
  pub not_given : frame_in pc code.frames ≡ None → IsTarget Goes code pc caught None
  not_given is frame = (λ lands. absurd lands, λ reaches. subst (given_by frame) is reaches.given)

  -- no instruction begins there
  pub not_start : ¬ IsStart code.instructions pc → IsTarget Goes code pc caught None
  not_start none frame = (λ lands. absurd lands, λ reaches. none reaches.instruction)

  module _ (target : Frame) (is : Some target ≡ frame_in pc code.frames) where
    -- the stack of the frame there takes something else
    pub not_taken : ¬ EntriesGo Goes (caught ∷ []) (reversed target.stack) → IsTarget Goes code pc caught None
    not_taken none frame = (
      λ lands. absurd lands,
      λ reaches.
          let go = (goes_padded Goes code.max_locals (thrown frame) (top_down target)).1 (subst (given_by frame) (sym is) reaches.given) in
          none go.stack,
    )

    pub taken : IsStart code.instructions pc → EntriesGo Goes (caught ∷ []) (reversed target.stack) → IsTarget Goes code pc caught (Some target)
    taken start entries frame =
        let both = goes_padded Goes code.max_locals (thrown frame) (top_down target) in (
          λ lands. record { instruction = start; given = subst (given_by frame) is (both.0 (record { locals = lands.locals; stack = entries; flag = lands.flag })) },
          λ reaches.
              let go = both.1 (subst (given_by frame) (sym is) reaches.given) in
              record { locals = go.locals; flag = go.flag },
        )

module _ (Goes : Assignability) (code : Code) (pc : ℕ) (frame : Working) where
  abbrev takes : Handler → Type 0
  takes handler = Covers handler pc → HandlerTakes Goes code frame handler

  abbrev lands : Landing → Type 0
  lands landing = Covers landing.handler.now pc → Lands Goes frame (target_in landing)

  all_take : (landings : List Landing) → All (IsLanding Goes code) landings → All lands landings → All takes (map handler_of landings)
  all_take [] are all = λ k d within. absurd (omega arith)
  all_take (first ∷ rest) are all =
      All-cons takes (handler_of first) (map handler_of rest) (λ covers. (All-head (IsLanding Goes code) first rest are frame).0 (All-head lands first rest all covers))
      (all_take rest (All-tail (IsLanding Goes code) first rest are) (All-tail lands first rest all))

  all_land : (landings : List Landing) → All (IsLanding Goes code) landings → All takes (map handler_of landings) → All lands landings
  all_land [] are all = λ k d within. absurd (omega arith)
  all_land (first ∷ rest) are all =
      All-cons lands first rest (λ covers. (All-head (IsLanding Goes code) first rest are frame).1 (All-head takes (handler_of first) (map handler_of rest) all covers))
      (all_land rest (All-tail (IsLanding Goes code) first rest are) (All-tail takes (handler_of first) (map handler_of rest) all))

  -- what is thrown lands with each handler exactly where each takes it
  pub landings_take : (landings : List Landing) → AreLandings Goes code landings → All lands landings ↔ All takes code.handlers
  landings_take landings are =
      (λ all. subst (All takes) are.handlers (all_take landings are.each all), λ all. all_land landings are.each (subst (All takes) (sym are.handlers) all))

module _ (Goes : Assignability) (code : Code) (handlers : List Handler) (count : ℕ) (handler : Handler) (within : count < length handlers) (is : handler ≡ get_or handlers count handler) where
  -- one landing more
  pub more_handlers : (landings more : List Landing) (landing : Landing) → map handler_of landings ≡ take count handlers → landing.handler.now ≡ handler → more ≡ landings ++ landing ∷ [] → map handler_of more ≡ take (count + 1) handlers
  more_handlers landings more landing before same pushed =
      ap (map handler_of) pushed
      ∙ map_append handler_of landings (landing ∷ [])
      ∙ ap (λ list. list ++ handler_of landing ∷ []) before
      ∙ ap (λ (last : Handler). take count handlers ++ last ∷ []) (same ∙ is)
      ∙ rw add-one (sym (take-suc handlers count handler within))

  pub more_landings : (landings more : List Landing) (landing : Landing) → All (IsLanding Goes code) landings → IsLanding Goes code landing → more ≡ landings ++ landing ∷ [] → All (IsLanding Goes code) more
  more_landings landings more landing before right pushed =
      subst (All (IsLanding Goes code)) (sym pushed) (All-append (IsLanding Goes code) landings (landing ∷ []) before (All-cons (IsLanding Goes code) landing [] right (All-nil (IsLanding Goes code))))
