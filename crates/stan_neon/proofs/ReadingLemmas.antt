-- Lines that are read as a block: each number of steps that is no less than the lines gives the same.
use Rattle.std.proofs.Common.{◌≡◌, ℕ, ◌-◌, ◌≤◌, zero, suc, List, [], ◌∷◌, Bool, true, false, length, refl, ap, ◌∙◌, arith}
use Rattle.std.specs.Prelude.{if◌then◌else◌}
use Rattle.stan_model_neon.specs.Outlines.{Line, End, Kind, Pairs, kind_of, begins_map, behind_dash, is_in_block, dashes_under}
use Rattle.stan_neon.specs.Reading.{Read, Reader, opens, opened, under, further, standing, with_next, with_further, stood, lines_within, read_lines}

abbrev Shrinks : Reader → Type 0
Shrinks read = (left : ℕ) (dashes : List (List ℕ)) (kind : Kind) (indentation : List ℕ) (lines : List Line) → length (read left dashes kind indentation lines).1 ≤ length lines

abbrev Agree : ℕ → Reader → Reader → Type 0
Agree most r s = (left : ℕ) (dashes : List (List ℕ)) (kind : Kind) (indentation : List ℕ) (lines : List Line) → length lines ≤ most → r left dashes kind indentation lines ≡ s left dashes kind indentation lines

pub opened-shrinks : (read : Reader) → Shrinks read → (left : ℕ) (dashes : List (List ℕ)) (above : Line) (lines : List Line) → length (opened read left dashes above lines).1 ≤ length lines
opened-shrinks read h left dashes above [] = omega arith
opened-shrinks read h left dashes above (l ∷ ls) = by (opens left above l)
  where
    by : (b : Bool) → length (if b then read (left - 1) dashes (kind_of l.entry) l.indentation (l ∷ ls) else (End, l ∷ ls)).1 ≤ length (l ∷ ls)
    by true = h (left - 1) dashes (kind_of l.entry) l.indentation (l ∷ ls)
    by false = omega arith

pub further-shrinks : (read : Reader) → Shrinks read → (left : ℕ) (dashes : List (List ℕ)) (line : Line) (lines : List Line) → length (further read left dashes line lines).1 ≤ length lines
further-shrinks read h left dashes line lines = by (begins_map line.entry)
  where
    by : (b : Bool) → length (if b then read left dashes Pairs (behind_dash line.indentation) lines else (End, lines)).1 ≤ length lines
    by true = h left dashes Pairs (behind_dash line.indentation) lines
    by false = omega arith

pub stood-shrinks : (read : Reader) → Shrinks read → (left : ℕ) (dashes : List (List ℕ)) (kind : Kind) (indentation : List ℕ) (line : Line) (lines : List Line) → length (stood read left dashes kind indentation line lines).1 ≤ length lines
stood-shrinks read h left dashes kind indentation line lines =
    let u : Read = under read left dashes line lines in
    let f : Read = further read left dashes line u.1 in
    let a : length u.1 ≤ length lines = opened-shrinks read h left (dashes_under dashes line) line lines in
    let b : length f.1 ≤ length u.1 = further-shrinks read h left dashes line u.1 in
    let d : length (read left dashes kind indentation f.1).1 ≤ length f.1 = h left dashes kind indentation f.1 in
    omega (arith, a, b, d)

within-shrinks : (n : ℕ) → Shrinks (lines_within n)
within-shrinks zero left dashes kind indentation lines = omega arith
within-shrinks (suc n) left dashes kind indentation [] = omega arith
within-shrinks (suc n) left dashes kind indentation (l ∷ ls) = by (is_in_block dashes kind indentation l) (stood-shrinks (lines_within n) (within-shrinks n) left dashes kind indentation l ls)
  where
    by : (b : Bool) → length (stood (lines_within n) left dashes kind indentation l ls).1 ≤ length ls → length (if b then stood (lines_within n) left dashes kind indentation l ls else (End, l ∷ ls)).1 ≤ length (l ∷ ls)
    by true h = omega (arith, h)
    by false h = omega arith

opened-agree : (most : ℕ) (r s : Reader) → Agree most r s → (left : ℕ) (dashes : List (List ℕ)) (above : Line) (lines : List Line) → length lines ≤ most → opened r left dashes above lines ≡ opened s left dashes above lines
opened-agree most r s a left dashes above [] le = refl
opened-agree most r s a left dashes above (l ∷ ls) le = by (opens left above l)
  where
    by : (b : Bool) → (if b then r (left - 1) dashes (kind_of l.entry) l.indentation (l ∷ ls) else (End, l ∷ ls)) ≡ (if b then s (left - 1) dashes (kind_of l.entry) l.indentation (l ∷ ls) else (End, l ∷ ls))
    by true = a (left - 1) dashes (kind_of l.entry) l.indentation (l ∷ ls) le
    by false = refl

further-agree : (most : ℕ) (r s : Reader) → Agree most r s → (left : ℕ) (dashes : List (List ℕ)) (line : Line) (lines : List Line) → length lines ≤ most → further r left dashes line lines ≡ further s left dashes line lines
further-agree most r s a left dashes line lines le = by (begins_map line.entry)
  where
    by : (b : Bool) → (if b then r left dashes Pairs (behind_dash line.indentation) lines else (End, lines)) ≡ (if b then s left dashes Pairs (behind_dash line.indentation) lines else (End, lines))
    by true = a left dashes Pairs (behind_dash line.indentation) lines le
    by false = refl

stood-agree : (most : ℕ) (r s : Reader) → Shrinks r → Agree most r s → (left : ℕ) (dashes : List (List ℕ)) (kind : Kind) (indentation : List ℕ) (line : Line) (lines : List Line) → length lines ≤ most
    → stood r left dashes kind indentation line lines ≡ stood s left dashes kind indentation line lines
stood-agree most r s h a left dashes kind indentation line lines le =
    let u : Read = under r left dashes line lines in
    let f : Read = further r left dashes line u.1 in
    let lu : length u.1 ≤ most = omega (arith, opened-shrinks r h left (dashes_under dashes line) line lines) in
    let lf : length f.1 ≤ most = omega (arith, further-shrinks r h left dashes line u.1) in
    let next : with_next r left dashes kind indentation line u.0 f ≡ with_next s left dashes kind indentation line u.0 f = ap (standing line u.0 f.0) (a left dashes kind indentation f.1 lf) in
    let more : with_further r left dashes kind indentation line u ≡ with_further s left dashes kind indentation line u =
    next ∙ ap (λ (g : Read). with_next s left dashes kind indentation line u.0 g) (further-agree most r s a left dashes line u.1 lu) in
    more ∙ ap (λ (v : Read). with_further s left dashes kind indentation line v) (opened-agree most r s a left (dashes_under dashes line) line lines le)

within-agree : (most n m : ℕ) → most ≤ n → most ≤ m → Agree most (lines_within n) (lines_within m)
within-agree most zero zero ln lm left dashes kind indentation lines le = refl
within-agree most zero (suc m) ln lm left dashes kind indentation [] le = refl
within-agree most zero (suc m) ln lm left dashes kind indentation (l ∷ ls) le = absurd (omega arith)
within-agree most (suc n) zero ln lm left dashes kind indentation [] le = refl
within-agree most (suc n) zero ln lm left dashes kind indentation (l ∷ ls) le = absurd (omega arith)
within-agree most (suc n) (suc m) ln lm left dashes kind indentation [] le = refl
within-agree most (suc n) (suc m) ln lm left dashes kind indentation (l ∷ ls) le =
    by (is_in_block dashes kind indentation l)
    (stood-agree (length ls) (lines_within n) (lines_within m) (within-shrinks n) (within-agree (length ls) n m (omega arith) (omega arith)) left dashes kind indentation l ls (omega arith))
  where
    by : (b : Bool) → stood (lines_within n) left dashes kind indentation l ls ≡ stood (lines_within m) left dashes kind indentation l ls
        → (if b then stood (lines_within n) left dashes kind indentation l ls else (End, l ∷ ls)) ≡ (if b then stood (lines_within m) left dashes kind indentation l ls else (End, l ∷ ls))
    by true e = e
    by false e = refl

-- ---- how lines are read

pub read_lines-shrinks : Shrinks read_lines
unfolding read_lines
read_lines-shrinks left dashes kind indentation lines = within-shrinks (length lines) left dashes kind indentation lines

read_lines-agree : (n : ℕ) → Agree n (lines_within n) read_lines
unfolding read_lines
read_lines-agree n left dashes kind indentation lines le = within-agree (length lines) n (length lines) le (omega arith) left dashes kind indentation lines (omega arith)

pub read_lines-end : (left : ℕ) (dashes : List (List ℕ)) (kind : Kind) (indentation : List ℕ) → read_lines left dashes kind indentation [] ≡ (End, [])
unfolding read_lines
read_lines-end left dashes kind indentation = refl

module _ (left : ℕ) (dashes : List (List ℕ)) (kind : Kind) (indentation : List ℕ) (line : Line) (lines : List Line) where
  pub read_lines-stop : is_in_block dashes kind indentation line ≡ false → read_lines left dashes kind indentation (line ∷ lines) ≡ (End, line ∷ lines)
  unfolding read_lines
  read_lines-stop e = rw e refl

  step-within : is_in_block dashes kind indentation line ≡ true → read_lines left dashes kind indentation (line ∷ lines) ≡ stood (lines_within (length lines)) left dashes kind indentation line lines
  unfolding read_lines
  step-within e = rw e refl

  pub read_lines-step : is_in_block dashes kind indentation line ≡ true → read_lines left dashes kind indentation (line ∷ lines) ≡ stood read_lines left dashes kind indentation line lines
  read_lines-step e =
      step-within e ∙ stood-agree (length lines) (lines_within (length lines)) read_lines (within-shrinks (length lines)) (read_lines-agree (length lines)) left dashes kind indentation line lines (omega arith)
