-- Lines that are gathered before they are put.
use Rattle.std.specs.Prelude.{◌≡◌, ◌++◌, ℕ, List, Option, Result, OnOk}
use Rattle.dj_outer.specs.declared.files.Failed.{Failed}
use Rattle.dj_outer.specs.Sink.{Puts}

-- a piece came behind the bytes that were gathered: a front of both is put, and where that goes well the rest is gathered
pub record Gathers (result : Result (Unit {0}) Failed) (taken_old taken_new : Option (List ℕ)) (faults_old faults_new : ℕ) (old new piece : List ℕ) : Type 0 where
  pub front : List ℕ
  pub back : List ℕ
  pub both : front ++ back ≡ old ++ piece
  pub puts : Puts result taken_old taken_new faults_old faults_new front
  pub gathered : OnOk result (new ≡ back)
