-- Texts put one behind the other.
use Rattle.std.proofs.Common.{◌≡◌, ℕ, List, ◌++◌, ap, ◌∙◌, append_assoc}

pub three_more : (old a b c x y z : List ℕ) → x ≡ old ++ a → y ≡ x ++ b → z ≡ y ++ c → z ≡ old ++ (a ++ (b ++ c))
three_more old a b c x y z first second third =
    third ∙ ap (λ u. u ++ c) (second ∙ ap (λ u. u ++ b) first) ∙ append_assoc (old ++ a) b c ∙ append_assoc old a (b ++ c)
