mod SeenLemmas
mod TableLemmas
mod TokenLemmas
mod WordLemmas
