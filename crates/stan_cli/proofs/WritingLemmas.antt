-- A text that is written piece by piece.
use Rattle.std.proofs.Common.{◌≡◌, ℕ, ◌+◌, ◌-◌, ◌≤◌, List, ◌++◌, length, take, drop, sym, ap, ◌∙◌, arith, append_assoc, length-drop}
use Rattle.std.proofs.lemmas.List.{take_all, length-take}
use Rattle.std.proofs.Math.Seq.{take-add}

module _ (text : List ℕ) (done : ℕ) where
  -- what is left is one piece
  pub length-rest : length (take (length text - done) (drop done text)) ≡ length text - done
  length-rest = omega (arith, length-take (length text - done) (drop done text), length-drop done text)

  -- a further part of it
  pub take-more : (n : ℕ) → take done text ++ take n (take (length text - done) (drop done text)) ≡ take (done + n) text
  take-more n =
      let short : length (drop done text) ≤ length text - done = omega (arith, length-drop done text) in
      ap (λ rest. take done text ++ take n rest) (take_all (length text - done) (drop done text) short) ∙ sym (take-add done n text)

  pub written-more : (n : ℕ) (initial old new : List ℕ) → old ≡ initial ++ take done text → new ≡ old ++ take n (take (length text - done) (drop done text)) → new ≡ initial ++ take (done + n) text
  written-more n initial old new e step =
      step ∙ ap (λ before. before ++ take n (take (length text - done) (drop done text))) e ∙ append_assoc initial (take done text) _ ∙ ap (λ more. initial ++ more) (take-more n)
