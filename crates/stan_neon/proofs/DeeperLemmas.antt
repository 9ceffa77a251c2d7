-- Indentations: deeper, equal, behind a dash; which lines a dash claims.
use Rattle.std.proofs.Common.{◌≡◌, ℕ, List, [], ◌∷◌, ◌++◌, Bool, true, false, refl, sym, ◌∙◌, eq-eqb}
use Rattle.std.proofs.lemmas.Bool.{eqb-true}
use Rattle.std.specs.Prelude.{◌==◌, ◌&&◌, ◌||◌, not}
use Rattle.std.specs.List.{list_any}
use Rattle.std.specs.Str.{bytes_eq}
use Rattle.std.proofs.lemmas.Slice.Eq.{bytes_eq-Decides}
use Rattle.stan_model_neon.specs.Outlines.{Line, Kind, Pairs, is_of, is_deeper, behind_dash, is_claimed, is_in_block}

pub and-left : (a b : Bool) → (a && b) ≡ true → a ≡ true
and-left true b e = refl
and-left false b e = e

pub and-right : (a b : Bool) → (a && b) ≡ true → b ≡ true
and-right true b e = e
and-right false b e = absurd (cc e)

pub and-both : (a b : Bool) → a ≡ true → b ≡ true → (a && b) ≡ true
and-both a b e f = rw (e, f) refl

pub not-true : (b : Bool) → (b ≡ true → ⊥) → b ≡ false
not-true true n = absurd (n refl)
not-true false n = refl

pub deeper-itself : (p : List ℕ) → is_deeper p p ≡ false
deeper-itself [] = refl
deeper-itself (a ∷ p) = rw (eq-eqb a a refl) (deeper-itself p)

pub deeper-dash : (p : List ℕ) → is_deeper p (behind_dash p) ≡ true
deeper-dash [] = refl
deeper-dash (a ∷ p) = rw (eq-eqb a a refl) (deeper-dash p)

pub deeper-through : (p q r : List ℕ) → is_deeper p q ≡ true → is_deeper q r ≡ true → is_deeper p r ≡ true
deeper-through [] [] r e f = absurd (cc e)
deeper-through [] (b ∷ q) [] e f = absurd (cc f)
deeper-through [] (b ∷ q) (d ∷ r) e f = refl
deeper-through (a ∷ p) [] r e f = absurd (cc e)
deeper-through (a ∷ p) (b ∷ q) [] e f = absurd (cc f)
deeper-through (a ∷ p) (b ∷ q) (d ∷ r) e f =
    let ab : a ≡ b = eqb-true a b (and-left (a == b) (is_deeper p q) e) in
    let bd : b ≡ d = eqb-true b d (and-left (b == d) (is_deeper q r) f) in
    and-both (a == d) (is_deeper p r) (eq-eqb a d (ab ∙ bd)) (deeper-through p q r (and-right (a == b) (is_deeper p q) e) (and-right (b == d) (is_deeper q r) f))

pub same-is : (xs ys : List ℕ) → bytes_eq xs ys ≡ true → xs ≡ ys
same-is xs ys e = (bytes_eq-Decides xs ys).0 e

pub is-same : (xs ys : List ℕ) → xs ≡ ys → bytes_eq xs ys ≡ true
is-same xs ys e = (bytes_eq-Decides xs ys).1 e

-- ---- lines of a block

module _ (dashes : List (List ℕ)) (kind : Kind) (indentation : List ℕ) (line : Line) (e : is_in_block dashes kind indentation line ≡ true) where
  pub block-indentation : line.indentation ≡ indentation
  block-indentation = same-is line.indentation indentation (and-left (bytes_eq line.indentation indentation) (is_of kind line.entry && not (is_claimed dashes line)) e)

  pub block-kind : is_of kind line.entry ≡ true
  block-kind = and-left (is_of kind line.entry) (not (is_claimed dashes line)) (and-right (bytes_eq line.indentation indentation) (is_of kind line.entry && not (is_claimed dashes line)) e)

  pub block-unclaimed : is_claimed dashes line ≡ false
  block-unclaimed = by (is_claimed dashes line) (and-right (is_of kind line.entry) (not (is_claimed dashes line)) (and-right (bytes_eq line.indentation indentation) (is_of kind line.entry && not (is_claimed dashes line)) e))
    where
      by : (b : Bool) → not b ≡ true → b ≡ false
      by true f = absurd (cc f)
      by false f = refl

-- A claimed line is in no block.
pub claimed-out : (dashes : List (List ℕ)) (kind : Kind) (indentation : List ℕ) (line : Line) → is_claimed dashes line ≡ true → is_in_block dashes kind indentation line ≡ false
claimed-out dashes kind indentation line e = not-true (is_in_block dashes kind indentation line) (λ f. let g : true ≡ false = sym e ∙ block-unclaimed dashes kind indentation line f in cc g)

-- A line of another indentation is in no block of this one.
pub elsewhere-out : (dashes : List (List ℕ)) (kind : Kind) (indentation : List ℕ) (line : Line) → (line.indentation ≡ indentation → ⊥) → is_in_block dashes kind indentation line ≡ false
elsewhere-out dashes kind indentation line n = not-true (is_in_block dashes kind indentation line) (λ f. n (block-indentation dashes kind indentation line f))

any-more : (test : List ℕ → Bool) (xs ys : List (List ℕ)) → list_any test xs ≡ true → list_any test (xs ++ ys) ≡ true
any-more test [] ys e = absurd (cc e)
any-more test (x ∷ xs) ys e = by (test x) (any-more test xs ys) e
  where
    by : (b : Bool) → (list_any test xs ≡ true → list_any test (xs ++ ys) ≡ true) → (b || list_any test xs) ≡ true → (b || list_any test (xs ++ ys)) ≡ true
    by true more f = refl
    by false more f = more f

any-last : (test : List ℕ → Bool) (xs : List (List ℕ)) (y : List ℕ) → test y ≡ true → list_any test (xs ++ y ∷ []) ≡ true
any-last test [] y e = rw e refl
any-last test (x ∷ xs) y e = by (test x) (any-last test xs y e)
  where
    by : (b : Bool) → list_any test (xs ++ y ∷ []) ≡ true → (b || list_any test (xs ++ y ∷ [])) ≡ true
    by true f = refl
    by false f = f

-- What is claimed stays so under more dashes.
pub claimed-more : (dashes more : List (List ℕ)) (line : Line) → is_claimed dashes line ≡ true → is_claimed (dashes ++ more) line ≡ true
claimed-more dashes more line e =
    let test : List ℕ → Bool = λ dash. bytes_eq line.indentation (behind_dash dash) in
    and-both (is_of Pairs line.entry) (list_any test (dashes ++ more)) (and-left (is_of Pairs line.entry) (list_any test dashes) e) (any-more test dashes more (and-right (is_of Pairs line.entry) (list_any test dashes) e))

-- A pair behind a dash is claimed by it.
pub claimed-by : (dashes : List (List ℕ)) (dash : List ℕ) (line : Line) → is_of Pairs line.entry ≡ true → line.indentation ≡ behind_dash dash → is_claimed (dashes ++ dash ∷ []) line ≡ true
claimed-by dashes dash line e f =
    let test : List ℕ → Bool = λ dash. bytes_eq line.indentation (behind_dash dash) in
    and-both (is_of Pairs line.entry) (list_any test (dashes ++ dash ∷ [])) e (any-last test dashes dash (is-same line.indentation (behind_dash dash) f))
