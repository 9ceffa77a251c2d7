mod TextLemmas
mod StartLemmas
mod SpanLemmas
mod PlaceLemmas
