pub mod ExpressionLaw
mod ConstantLemmas
