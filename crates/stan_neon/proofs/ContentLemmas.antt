-- Fronts of the lines of a text, and those of them that have content.
use Rattle.std.proofs.Common.{◌≡◌, ℕ, ◌+◌, ◌<◌, suc, List, [], ◌∷◌, ◌++◌, length, take, refl, sym, ap, ◌∙◌, arith}
use Rattle.std.specs.Prelude.{Option, Some, None}
use Rattle.stan_model_neon.specs.declared.node.Entry.{Entry}
use Rattle.stan_model_neon.specs.Outlines.{Line}
use Rattle.stan_neon_lines.specs.Lines.{content, with_content, contents}

with-append : (number : ℕ) (here : Option (List ℕ × Entry)) (fs bs : List Line) → with_content number here (fs ++ bs) ≡ with_content number here fs ++ bs
with-append number None fs bs = refl
with-append number (Some (indentation, entry)) fs bs = refl

pub contents-append : (number : ℕ) (fs bs : List (List ℕ)) → contents number (fs ++ bs) ≡ contents number fs ++ contents (number + length fs) bs
contents-append number [] bs = let e : number + 0 ≡ number = omega arith in ap (λ n. contents n bs) (sym e)
contents-append number (a ∷ fs) bs =
    let e : suc number + length fs ≡ number + length (a ∷ fs) = omega arith in
    ap (with_content number (content a)) (contents-append (suc number) fs bs ∙ ap (λ n. contents (suc number) fs ++ contents n bs) e)
    ∙ with-append number (content a) (contents (suc number) fs) (contents (number + length (a ∷ fs)) bs)

-- The place of a line with content among the lines of a text.
pub record Place (number : ℕ) (of_lines : List (List ℕ)) (before : List Line) (line : Line) : Type 0 where
  pub at : ℕ
  pub number_is : line.number ≡ number + at
  pub within : at < length of_lines
  pub front : contents number (take at of_lines) ≡ before
  pub with_it : contents number (take (suc at) of_lines) ≡ before ++ line ∷ []

pub place-of : (number : ℕ) (of_lines : List (List ℕ)) (before : List Line) (line : Line) (behind : List Line) → contents number of_lines ≡ before ++ line ∷ behind → Place number of_lines before line
place-of number [] [] line behind e = absurd (cc e)
place-of number [] (b ∷ before) line behind e = absurd (cc e)
place-of number (l ∷ ls) before line behind e = by (content l) refl before e (λ (b : List Line) (f : contents (suc number) ls ≡ b ++ line ∷ behind). place-of (suc number) ls b line behind f)
  where
    silent : (before : List Line) → content l ≡ None → Place (suc number) ls before line → Place number (l ∷ ls) before line
    silent before c p = record {
      at = suc p.at;
      number_is = omega (arith, p.number_is);
      within = omega (arith, p.within);
      front = rw c p.front;
      with_it = rw c p.with_it;
    }

    by : (here : Option (List ℕ × Entry)) → content l ≡ here → (before : List Line) → with_content number here (contents (suc number) ls) ≡ before ++ line ∷ behind
        → ((b : List Line) → contents (suc number) ls ≡ b ++ line ∷ behind → Place (suc number) ls b line) → Place number (l ∷ ls) before line
    by None c before f more = silent before c (more before f)
    by (Some (indentation, entry)) c [] f more =
        let here : Line = record { number = number; indentation = indentation; entry = entry } in
        let h : here ≡ line = cc f in
        record {
          at = 0;
          number_is = let n : line.number ≡ number = ap (λ (m : Line). m.number) (sym h) in omega (arith, n);
          within = omega arith;
          front = refl;
          with_it = rw c (ap (λ m. m ∷ []) h);
        }
    by (Some (indentation, entry)) c (b ∷ before) f more =
        let here : Line = record { number = number; indentation = indentation; entry = entry } in
        let h : here ≡ b = cc f in
        let t : contents (suc number) ls ≡ before ++ line ∷ behind = cc f in
        let p = more before t in
        record {
          at = suc p.at;
          number_is = omega (arith, p.number_is);
          within = omega (arith, p.within);
          front = rw c (ap (λ m. here ∷ m) p.front ∙ ap (λ m. m ∷ before) h);
          with_it = rw c (ap (λ m. here ∷ m) p.with_it ∙ ap (λ m. m ∷ (before ++ line ∷ [])) h);
        }
