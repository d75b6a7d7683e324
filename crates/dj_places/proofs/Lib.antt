pub mod RuleLemmas
mod Examples
