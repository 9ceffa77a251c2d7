-- A type that may end at several places: the last of them at which the rest can be read makes the tree that counts.
use Rattle.std.proofs.Common.{◌≡◌, ◌∙◌, ℕ, zero, suc, ◌+◌, ◌≤◌, ◌<◌, Bool, true, false, cond, List, ◌∷◌, length, take, Option, Some, None, refl, sym, subst, ◌⊎◌, inl, inr, arith, ◌&&◌}
use Rattle.std.specs.Prelude.{nat_le}
use Rattle.std.proofs.lemmas.Bool.{leb-true, le-leb}
use Rattle.std.proofs.lemmas.List.{length-take-le}
use Rattle.stan_model_doc.specs.declared.token.DocKind.TheVariants as k
use Rattle.stan_model_doc.specs.declared.token.DocToken.{DocToken}
use Rattle.stan_model_doc.specs.Tokens.{same_kind, kind_at, has}
use Rattle.stan_model_doc.specs.Symbols.{Written, One, May, Symbol, Part}
use Rattle.stan_model_doc.specs.Rules.{Rule, symbols, sort_of}
use Rattle.stan_model_doc.specs.Trees.{Forest, some}
use Rattle.stan_model_doc.specs.Grammar.{Runs}
use Rattle.stan_model_doc.specs.Choices.{Better}
use Rattle.stan_doc_descent.specs.Parse.{Read, choose, Piece, standing, one, height}
use Rattle.stan_doc_descent.specs.Tables.{goes, rule_goes}
use Rattle.stan_doc_descent.specs.Descent.{IsSound, Reaches, BetterPiece, Outgrown, ReadsParts}
use Rattle.stan_doc_descent.specs.Alternatives.{ReadsProductions}
use Rattle.stan_doc_descent.proofs.Words.{and_split, some_is, see, subset_has, clash}
use Rattle.stan_doc_descent.proofs.Checks.{rule_part}
use Rattle.stan_doc_descent.proofs.Preferred.{one_better, one_longer, may_better}
use Rattle.stan_doc_descent.proofs.Reading.{bind_ok, onto_is, one_sound, larger, kept, same_size}
use Rattle.stan_doc_descent.proofs.Alternatives.{parts_are_read}
use Rattle.stan_doc_conditions.specs.Conditions.{parted_at, last_parted}
use Rattle.stan_doc_conditions.proofs.Prefixes.{agreed, prefix_agrees, agrees_prefix, prefix_ends}

pub in_order : (a b : ℕ) → (a ≤ b) ⊎ (b < a)
in_order zero b = inl (omega arith)
in_order (suc a) zero = inr (omega arith)
in_order (suc a) (suc b) = elim (in_order a b) [ inl le ↦ inl (omega (arith, le)) | inr lt ↦ inr (omega (arith, lt)) ]

pub guarded : {A : Type 0} (c : Bool) (o : Option A) (y : A) → cond c o None ≡ Some y → (c ≡ true) × (o ≡ Some y)
guarded true o y h = (refl, h)
guarded false o y h = absurd cc

pub chosen : {A : Type 0} (o : Option A) (other : Option A) (y : A) → choose o (λ x. Some x) other ≡ Some y → (o ≡ Some y) ⊎ ((o ≡ None) × (other ≡ Some y))
chosen (Some x) other y h = inl h
chosen None other y h = inr (refl, h)

module _ (ts : List DocToken) (below : List DocToken → Rule → ℕ → Read Forest) (n : ℕ) (sound : (us : List DocToken) → IsSound us (below us) n) (tail : List Symbol) (behind : ℕ → Read Forest) where
  abbrev Found : List Symbol → ℕ → Forest × ℕ → Type 0
  Found xs at y = Runs ts xs y.0 at y.1 × (height y.0 ≤ n)

  abbrev All : List Symbol
  All = Part One Written ∷ tail

  grown : (f : Forest) (at to : ℕ) (y : Forest × ℕ) → y.0 ≡ f → y.1 ≡ to → Runs ts All f at to → height f ≤ n → Found All at y
  grown f at to y e p g d = (subst (λ z. Runs ts All z at y.1) (sym e) (subst (λ z. Runs ts All f at z) (sym p) g), subst (λ z. height z ≤ n) (sym e) d)

  module _ (rest : (c : ℕ) (x : Forest × ℕ) → behind c ≡ Some x → Found tail c x) where
    -- The type that was read first ends at the place, and what is read behind it there stands behind it.
    abbrev pub IsParted : ℕ → ℕ → Forest × ℕ → Type 0
    IsParted at c y = (a : Piece) × (x : Forest × ℕ) × (one (take c ts) (below (take c ts)) Written at ≡ Some (a, c)) × (y.0 ≡ standing a x.0) × Found All at y × (behind c ≡ Some x) × (y.1 ≡ x.1)

    pub parted_is : (at c : ℕ) (y : Forest × ℕ) → c ≤ length ts → parted_at ts below behind at c ≡ Some y → IsParted at c y
    parted_is at c y le h =
        let a = bind_ok (one (take c ts) (below (take c ts)) Written at) _ y h in
        let g = guarded (nat_le a.0.1 c && nat_le c a.0.1) _ y a.2 in
        let both = and_split (nat_le a.0.1 c) (nat_le c a.0.1) g.0 in
        let same : a.0.1 ≡ c = omega (arith, leb-true a.0.1 c both.0, leb-true c a.0.1 both.1) in
        let b = onto_is (behind c) (standing a.0.0) y g.1 in
        let piece = one_sound (take c ts) (below (take c ts)) n (sound (take c ts)) Written at a.0 a.1 in
        let there : Runs ts (symbols a.0.0.0) a.0.0.1 at c = agreed (take c ts) ts c (prefix_agrees ts c le) (symbols a.0.0.0) a.0.0.1 at c (omega arith) (subst (λ z. Runs (take c ts) (symbols a.0.0.0) a.0.0.1 at z) same piece.1) in
        let second = rest c b.0 b.1 in (
          a.0.0,
          b.0,
          subst (λ z. one (take c ts) (below (take c ts)) Written at ≡ Some (a.0.0, z)) same a.1,
          b.2,
          grown (standing a.0.0 b.0.0) at b.0.1 y b.2 b.3 (c, piece.0, there, second.0) (omega (arith, piece.2, second.1)),
          b.1,
          b.3,
        )

    -- some place parts what is read
    pub last_is : (at m : ℕ) (y : Forest × ℕ) → m ≤ length ts + 1 → last_parted ts below behind at m ≡ Some y → (c : ℕ) × IsParted at c y
    last_is at zero y le h = absurd cc
    last_is at (suc m) y le h = elim (chosen (parted_at ts below behind at m) (last_parted ts below behind at m) y h) [
      | inl e ↦ (m, parted_is at m y (omega (arith, le)) e)
      | inr e ↦ last_is at m y (omega (arith, le)) e.1
    ]

    module _ (longest : (us : List DocToken) → ReadsProductions us (below us) n) where
      parts : (us : List DocToken) → ReadsParts us (below us) n
      parts us = parts_are_read us (below us) n (sound us) (longest us)

      -- it is the same or better, whether the type has to stand or not
      abbrev pub BothBetter : Forest → Forest → Type 0
      BothBetter x f = Better All x f × Better (Part May Written ∷ tail) x f

      abbrev pub Same : Forest → ℕ → Read Forest → Type 0
      Same f to o = (x : Forest × ℕ) × (o ≡ Some x) × BothBetter x.0 f × (x.1 ≡ to)

      at_end : (us : List DocToken) (r : Rule) (c end : ℕ) → sort_of r ≡ Written → kind_at us c ≡ k.End → Reaches us (rule_goes r) c end → end ≡ c
      unfolding same_kind
      at_end us r c end s e (inl i) = i
      at_end us r c end s e (inr w) =
          let go = subst (λ z. has (goes z) (kind_at us c) ≡ true) s (subset_has (rule_goes r) (goes (sort_of r)) (kind_at us c) (rule_part r) w.1) in
          clash (has (goes Written) k.End) (subst (λ z. has (goes Written) z ≡ true) e go) refl

      -- how the rest of a tree is read
      abbrev pub ReadsRest : Forest → ℕ → ℕ → Type 0
      ReadsRest g c to = (x : Forest × ℕ) × (behind c ≡ Some x) × Better tail x.0 g × (x.1 ≡ to)

      parted_there : (r : Rule) (a g : Forest) (at c to : ℕ) → sort_of r ≡ Written → height a < n → c ≤ length ts → Runs ts (symbols r) a at c → ReadsRest g c to → Same (some r a g) to (parted_at ts below behind at c)
      parted_there r a g at c to s d short h x =
          let full = length-take-le c ts short in
          let there = agreed ts (take c ts) c (agrees_prefix ts c short) (symbols r) a at c (omega arith) h in
          let q = parts (take c ts) Written r a at c refl s d (omega (arith, full)) there in
          let e = at_end (take c ts) r c q.0.1 s (prefix_ends ts c short) q.3 in
          let first = kept (take c ts) (below (take c ts)) n (sound (take c ts)) (parts (take c ts)) Written r a at c q.0 q.1 there e q.2 in
          let equal = same_size (take c ts) (below (take c ts)) n (sound (take c ts)) (parts (take c ts)) Written r a at c q.0 q.1 there e in (
            (standing q.0.0 x.0.0, x.0.1),
            rw q.1 (rw (le-leb q.0.1 c (omega (arith, e)), le-leb c q.0.1 (omega (arith, e))) (rw x.1 refl)),
            (one_better Written tail q.0.0 r a g x.0.0 first x.2, may_better Written tail q.0.0 r a g x.0.0 equal first x.2),
            x.3,
          )

      -- a longer type is better
      later : (r : Rule) (a g : Forest) (at c m : ℕ) (y : Forest × ℕ) → sort_of r ≡ Written → height a < n → c < m → m ≤ length ts → Runs ts (symbols r) a at c → parted_at ts below behind at m ≡ Some y → BothBetter y.0 (some r a g)
      later r a g at c m y s d lt le h is =
          let p = parted_is at m y le is in
          let full = length-take-le m ts le in
          let there = agreed ts (take m ts) m (agrees_prefix ts m le) (symbols r) a at c (omega (arith, lt)) h in
          let q = parts (take m ts) Written r a at c refl s d (omega (arith, full, lt)) there in
          let same = some_is q.0 (p.0, m) (sym q.1 ∙ p.2) in
          let better = subst (λ (z : Piece × ℕ). BetterPiece z.0 r a ⊎ Outgrown r a z.0.1) same q.2 in
          let more = larger (take m ts) (below (take m ts)) n (sound (take m ts)) (parts (take m ts)) Written r a at c (p.0, m) p.2 there lt in
          subst (λ z. BothBetter z (some r a g)) (sym p.3) (one_longer Written tail p.0 r a g p.1.0 refl s better more, inr (inl more))

      pub last_there : (r : Rule) (a g : Forest) (at c to m : ℕ) → sort_of r ≡ Written → height a < n → Runs ts (symbols r) a at c → ReadsRest g c to → c < m → m ≤ length ts + 1
          → ((b : ℕ) (y : Forest × ℕ) → IsParted at b y → y.1 ≡ to) → Same (some r a g) to (last_parted ts below behind at m)
      last_there r a g at c to zero s d h i lt room once = absurd (omega (arith, lt))
      last_there r a g at c to (suc m) s d h i lt room once = elim (in_order m c) [
        | inl under ↦
            let x = parted_there r a g at c to s d (omega (arith, lt, under, room)) h i in
            let e : c ≡ m = omega (arith, under, lt) in
            (x.0, rw (subst (λ z. parted_at ts below behind at z ≡ Some x.0) e x.1) refl, x.2, x.3)
        | inr over ↦ elim (see (parted_at ts below behind at m)) [
          | inl lack ↦ let w = last_there r a g at c to m s d h i over (omega (arith, room)) once in (w.0, rw lack w.1, w.2, w.3)
          | inr w ↦ (w.0, rw w.1 refl, later r a g at c m w.0 s d over (omega (arith, room)) h w.1, once m w.0 (parted_is at m w.0 (omega (arith, room)) w.1))
        ]
      ]
