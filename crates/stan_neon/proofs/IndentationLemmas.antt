-- Indentations as they are compared.
use Rattle.std.proofs.Common.{◌≡◌, ℕ, ◌+◌, ◌<◌, ◌≤◌, suc, List, [], ◌∷◌, ◌++◌, Bool, true, false, length, take, drop, get_or, refl, sym, ap, ◌∙◌, add-one, length-drop, drop-cons, eq-eqb, arith}
use Rattle.std.specs.Prelude.{◌==◌, ◌&&◌, not, nat_eq}
use Rattle.std.specs.Str.{bytes_eq}
use Rattle.std.proofs.Math.Seq.{take-append_seam, get_or-append_seam}
use Rattle.std.proofs.lemmas.List.{take-append-drop}
use Rattle.std.proofs.lemmas.Slice.Eq.{bytes_eq-Decides}
use Rattle.stan_model_neon.specs.Outlines.{is_deeper, behind_dash}

pub deeper-is : (outer inner : List ℕ) → length outer < length inner → bytes_eq outer (take (length outer) inner) ≡ is_deeper outer inner
deeper-is [] [] lt = absurd (omega arith)
deeper-is [] (b ∷ bs) lt = refl
deeper-is (a ∷ front) [] lt = absurd (omega arith)
deeper-is (a ∷ front) (b ∷ bs) lt = let le : length front < length bs = omega arith in ap (λ r. (a == b) && r) (deeper-is front bs le)

pub deeper-not : (outer inner : List ℕ) → length inner ≤ length outer → false ≡ is_deeper outer inner
deeper-not [] [] le = refl
deeper-not [] (b ∷ bs) le = absurd (omega arith)
deeper-not (a ∷ front) [] le = refl
deeper-not (a ∷ front) (b ∷ bs) le = by (a == b) (deeper-not front bs (omega arith))
  where
    by : (same : Bool) → false ≡ is_deeper front bs → false ≡ (same && is_deeper front bs)
    by true e = e
    by false e = refl

-- ---- two spaces more

same-front : (d xs ys : List ℕ) → bytes_eq (d ++ xs) (d ++ ys) ≡ bytes_eq xs ys
same-front [] xs ys = refl
same-front (a ∷ d) xs ys = rw (eq-eqb a a refl) (same-front d xs ys)

apart : (xs ys : List ℕ) → (xs ≡ ys → ⊥) → false ≡ bytes_eq xs ys
apart xs ys n = by (bytes_eq xs ys) refl
  where
    by : (same : Bool) → bytes_eq xs ys ≡ same → false ≡ bytes_eq xs ys
    by true e = absurd (n ((bytes_eq-Decides xs ys).0 e))
    by false e = sym e

module _ (xs d : List ℕ) where
  pub behind-other_front : (take (length d) xs ≡ d → ⊥) → false ≡ bytes_eq xs (behind_dash d)
  behind-other_front n = apart xs (behind_dash d) (λ e. n (ap (take (length d)) e ∙ take-append_seam d (32 ∷ 32 ∷ [])))

  pub behind-other_space : (get_or xs (length d) 0 ≡ 32 → ⊥) → false ≡ bytes_eq xs (behind_dash d)
  behind-other_space n = apart xs (behind_dash d) (λ e. n (ap (λ l. get_or l (length d) 0) e ∙ get_or-append_seam d 32 (32 ∷ []) 0))

  pub behind-last_space : length xs ≡ length d + 2 → take (length d) xs ≡ d → get_or xs (length d) 0 ≡ 32 → nat_eq (get_or xs (length d + 1) 0) 32 ≡ bytes_eq xs (behind_dash d)
  behind-last_space l front space =
      let n = length d in
      let last = get_or xs (n + 1) 0 in
      let here : n < length xs = omega arith in
      let there : n + 1 < length xs = omega arith in
      let first : drop n xs ≡ get_or xs n 0 ∷ drop (n + 1) xs = rw (add-one n) (drop-cons xs n 0 here) in
      let second : drop (n + 1) xs ≡ last ∷ drop (suc (n + 1)) xs = drop-cons xs (n + 1) 0 there in
      let none : drop (suc (n + 1)) xs ≡ [] = nothing (drop (suc (n + 1)) xs) (omega (arith, length-drop (suc (n + 1)) xs)) in
      let rest : drop n xs ≡ 32 ∷ last ∷ [] = first ∙ ap (λ b. b ∷ drop (n + 1) xs) space ∙ ap (λ r. 32 ∷ r) (second ∙ ap (λ r. last ∷ r) none) in
      let whole : d ++ (32 ∷ last ∷ []) ≡ xs = ap (λ f. f ++ (32 ∷ last ∷ [])) (sym front) ∙ ap (λ r. take n xs ++ r) (sym rest) ∙ take-append-drop n xs in
      and-true (nat_eq last 32) ∙ sym (same-front d (32 ∷ last ∷ []) (32 ∷ 32 ∷ [])) ∙ ap (λ l. bytes_eq l (behind_dash d)) whole
    where
      and-true : (b : Bool) → b ≡ (b && true)
      and-true true = refl
      and-true false = refl

      nothing : (l : List ℕ) → length l ≡ 0 → l ≡ []
      nothing [] e = refl
      nothing (b ∷ bs) e = absurd (omega arith)

pub differ : (xs ys : List ℕ) (tested : Bool) → tested ≡ not (bytes_eq xs ys) → tested ≡ true → xs ≡ ys → ⊥
differ xs ys tested e t same =
    let f : true ≡ false = sym t ∙ e ∙ ap not ((bytes_eq-Decides xs ys).1 same) in
    cc f

pub same : (xs ys : List ℕ) (tested : Bool) → tested ≡ not (bytes_eq xs ys) → tested ≡ false → xs ≡ ys
same xs ys tested e f = by (bytes_eq xs ys) refl
  where
    by : (b : Bool) → bytes_eq xs ys ≡ b → xs ≡ ys
    by true t = (bytes_eq-Decides xs ys).0 t
    by false n = let g : false ≡ true = sym f ∙ e ∙ ap not n in absurd (cc g)
