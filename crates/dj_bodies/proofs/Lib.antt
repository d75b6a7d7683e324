mod KindLemmas
mod PartLemmas
mod SaidLemmas
