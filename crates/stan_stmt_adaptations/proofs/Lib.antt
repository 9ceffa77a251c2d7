pub mod AdaptationLemmas
