-- Where an outline ends: which lines behind it belong to nothing that is open in it.
use Rattle.std.proofs.Common.{◌≡◌, ℕ, ◌-◌, List, [], ◌∷◌, ◌++◌, ◌⊎◌, inl, inr, Bool, true, false, refl, sym, ap, subst, ◌∙◌, append-nil}
use Rattle.std.specs.Prelude.{◌&&◌, nat_le, if◌then◌else◌}
use Rattle.stan_model_neon.specs.Outlines.{Line, Outline, End, Stand, spelled, Kind, Pairs, kind_of, is_of, is_alone, begins_map, is_deeper, behind_dash, is_claimed, is_in_block, dashes_under, first_kind, first_indentation, MayStandUnder, MayStandFurther, AreInBlock}
use Rattle.stan_neon.specs.Reader.{next_is_in}
use Rattle.stan_neon.specs.Reading.{opens}
use Rattle.stan_neon.proofs.DeeperLemmas.{and-left, and-right, not-true, deeper-itself, deeper-dash, deeper-through, block-indentation, block-kind, claimed-out, elsewhere-out, claimed-more, claimed-by}

-- whether a deeper block begins with the next line
abbrev pub next_begins : ℕ → List (List ℕ) → Line → List Line → Bool
next_begins left dashes above [] = false
next_begins left dashes above (line ∷ _) = opens left above line && is_in_block dashes (kind_of line.entry) line.indentation line

-- Under a line without a deeper block none begins.
abbrev pub RefusesUnder : ℕ → List (List ℕ) → Line → Outline → List Line → Type 0 → Type 0
RefusesUnder left dashes above End lines inside = next_begins left dashes above lines ≡ false
RefusesUnder left dashes above (Stand _ _ _ _) lines inside = inside

-- Behind the further pairs of a map none comes.
abbrev pub RefusesFurther : Bool → Type 0 → Type 0
RefusesFurther true inside = inside
RefusesFurther false inside = Unit {0}

pub record Refused (Under Further Next : Type 0) : Type 0 where
  pub under : Under
  pub further : Further
  pub next : Next

-- No block that is open at the end of an outline takes the next line.
abbrev pub Refuses : ℕ → List (List ℕ) → Kind → List ℕ → Outline → List Line → Type 0
Refuses left dashes kind indentation End lines = next_is_in dashes kind indentation lines ≡ false
Refuses left dashes kind indentation (Stand line under further next) lines =
    Refused
    (RefusesUnder left (dashes_under dashes line) line under (spelled further ++ (spelled next ++ lines))
    (Refuses (left - 1) (dashes_under dashes line) (first_kind under) (first_indentation under) under (spelled further ++ (spelled next ++ lines))))
    (RefusesFurther (begins_map line.entry) (Refuses left dashes Pairs (behind_dash line.indentation) further (spelled next ++ lines)))
    (Refuses left dashes kind indentation next lines)

-- ---- a line outside a block

-- The next line, if any, is claimed by a dash, or stands no deeper than the block and isn't of it.
abbrev pub Out : List (List ℕ) → Kind → List ℕ → List Line → Type 0
Out dashes kind indentation [] = Unit {0}
Out dashes kind indentation (line ∷ _) = (is_claimed dashes line ≡ true) ⊎ ((is_in_block dashes kind indentation line ≡ false) × (is_deeper indentation line.indentation ≡ false))

out-next : (dashes : List (List ℕ)) (kind : Kind) (indentation : List ℕ) (lines : List Line) → Out dashes kind indentation lines → next_is_in dashes kind indentation lines ≡ false
out-next dashes kind indentation [] o = refl
out-next dashes kind indentation (line ∷ lines) (inl claimed) = claimed-out dashes kind indentation line claimed
out-next dashes kind indentation (line ∷ lines) (inr apart) = apart.0

out-begins : (left : ℕ) (dashes : List (List ℕ)) (above : Line) (line : Line) (lines : List Line) → (is_claimed dashes line ≡ true) ⊎ (is_deeper above.indentation line.indentation ≡ false) → next_begins left dashes above (line ∷ lines) ≡ false
out-begins left dashes above line lines (inl claimed) =
    not-true (opens left above line && is_in_block dashes (kind_of line.entry) line.indentation line)
    (λ e. let f : true ≡ false = sym (and-right (opens left above line) (is_in_block dashes (kind_of line.entry) line.indentation line) e) ∙ claimed-out dashes (kind_of line.entry) line.indentation line claimed in cc f)
out-begins left dashes above line lines (inr flat) =
    not-true (opens left above line && is_in_block dashes (kind_of line.entry) line.indentation line)
    (λ e.
    let o : opens left above line ≡ true = and-left (opens left above line) (is_in_block dashes (kind_of line.entry) line.indentation line) e in
    let d : is_deeper above.indentation line.indentation ≡ true = and-right (is_alone above.entry) (is_deeper above.indentation line.indentation) (and-right (nat_le 1 left) (is_alone above.entry && is_deeper above.indentation line.indentation) o) in
    let f : true ≡ false = sym d ∙ flat in cc f)

-- What stands outside a block stands outside a deeper one.
out-deeper : (dashes : List (List ℕ)) (kind inner_kind : Kind) (indentation inner : List ℕ) (lines : List Line) → is_deeper indentation inner ≡ true
    → (more : List (List ℕ)) → Out dashes kind indentation lines → Out (dashes ++ more) inner_kind inner lines
out-deeper dashes kind inner_kind indentation inner [] d more o = tt
out-deeper dashes kind inner_kind indentation inner (line ∷ lines) d more (inl claimed) = inl (claimed-more dashes more line claimed)
out-deeper dashes kind inner_kind indentation inner (line ∷ lines) d more (inr apart) =
    inr (
      elsewhere-out (dashes ++ more) inner_kind inner line (λ e. let f : true ≡ false = sym d ∙ ap (is_deeper indentation) (sym e) ∙ apart.1 in cc f),
      not-true (is_deeper inner line.indentation) (λ e. let f : true ≡ false = sym (deeper-through indentation inner line.indentation d e) ∙ apart.1 in cc f),
    )

-- A line of a block stands outside a deeper one.
block-out : (dashes : List (List ℕ)) (kind inner_kind : Kind) (indentation inner : List ℕ) (line : Line) (lines : List Line) (within : List (List ℕ)) → is_deeper indentation inner ≡ true → is_in_block dashes kind indentation line ≡ true → Out within inner_kind inner (line ∷ lines)
block-out dashes kind inner_kind indentation inner line lines within d e =
    let at = block-indentation dashes kind indentation line e in
    inr (
      elsewhere-out within inner_kind inner line (λ f. let g : true ≡ false = sym d ∙ ap (is_deeper indentation) (sym f ∙ at) ∙ deeper-itself indentation in cc g),
      not-true (is_deeper inner line.indentation) (λ f. let g : true ≡ false = sym (deeper-through indentation inner line.indentation d f) ∙ ap (is_deeper indentation) at ∙ deeper-itself indentation in cc g),
    )

-- ---- a line behind a whole block

-- The next line is claimed by a dash or stands no deeper than this one.
abbrev Flat : List (List ℕ) → Line → List Line → Type 0
Flat dashes above [] = Unit {0}
Flat dashes above (line ∷ _) = (is_claimed dashes line ≡ true) ⊎ (is_deeper above.indentation line.indentation ≡ false)

flat-begins : (left : ℕ) (dashes : List (List ℕ)) (above : Line) (lines : List Line) → Flat dashes above lines → next_begins left dashes above lines ≡ false
flat-begins left dashes above [] h = refl
flat-begins left dashes above (line ∷ lines) h = out-begins left dashes above line lines h

flat-out : (dashes : List (List ℕ)) (above : Line) (kind : Kind) (inner : List ℕ) (lines : List Line) → is_deeper above.indentation inner ≡ true → Flat dashes above lines → Out dashes kind inner lines
flat-out dashes above kind inner [] d h = tt
flat-out dashes above kind inner (line ∷ lines) d (inl claimed) = inl claimed
flat-out dashes above kind inner (line ∷ lines) d (inr flat) =
    inr (
      elsewhere-out dashes kind inner line (λ e. let f : true ≡ false = sym d ∙ ap (is_deeper above.indentation) (sym e) ∙ flat in cc f),
      not-true (is_deeper inner line.indentation) (λ e. let f : true ≡ false = sym (deeper-through above.indentation inner line.indentation d e) ∙ flat in cc f),
    )

under-more : (dashes : List (List ℕ)) (line other : Line) → is_claimed dashes other ≡ true → is_claimed (dashes_under dashes line) other ≡ true
under-more dashes line other e = by (begins_map line.entry)
  where
    by : (b : Bool) → is_claimed (if b then dashes ++ line.indentation ∷ [] else dashes) other ≡ true
    by true = claimed-more dashes (line.indentation ∷ []) other e
    by false = e

under-claims : (dashes : List (List ℕ)) (line other : Line) → begins_map line.entry ≡ true → is_of Pairs other.entry ≡ true → other.indentation ≡ behind_dash line.indentation → is_claimed (dashes_under dashes line) other ≡ true
under-claims dashes line other b e f = rw b (claimed-by dashes line.indentation other e f)

module _ (left : ℕ) (dashes : List (List ℕ)) (kind : Kind) (indentation : List ℕ) (line : Line) (lines : List Line) (here : is_in_block dashes kind indentation line ≡ true) (out : Out dashes kind indentation lines) where
  at : line.indentation ≡ indentation
  at = block-indentation dashes kind indentation line here

  flat-last : (rest : List Line) → Out dashes kind indentation rest → Flat (dashes_under dashes line) line rest
  flat-last [] o = tt
  flat-last (x ∷ xs) (inl claimed) = inl (under-more dashes line x claimed)
  flat-last (x ∷ xs) (inr apart) = inr (ap (λ p. is_deeper p x.indentation) at ∙ apart.1)

  flat-next : (next : Outline) → AreInBlock left dashes kind indentation next → Flat (dashes_under dashes line) line (spelled next ++ lines)
  flat-next End g = flat-last lines out
  flat-next (Stand x u f n) g = inr (ap (is_deeper line.indentation) (block-indentation dashes kind indentation x g.here ∙ sym at) ∙ deeper-itself line.indentation)

  flat-further : (further next : Outline) → MayStandFurther line further → AreInBlock left dashes Pairs (behind_dash line.indentation) further → AreInBlock left dashes kind indentation next
      → Flat (dashes_under dashes line) line (spelled further ++ (spelled next ++ lines))
  flat-further End next may g h = flat-next next h
  flat-further (Stand x u f n) next may g h =
      inl (under-claims dashes line x may (block-kind dashes Pairs (behind_dash line.indentation) x g.here) (block-indentation dashes Pairs (behind_dash line.indentation) x g.here))

  out-further : (next : Outline) → AreInBlock left dashes kind indentation next → Out dashes Pairs (behind_dash line.indentation) (spelled next ++ lines)
  out-further End h = subst (λ d. Out d Pairs (behind_dash line.indentation) lines) (append-nil dashes) (out-deeper dashes kind Pairs indentation (behind_dash line.indentation) lines deeper [] out)
    where
      deeper : is_deeper indentation (behind_dash line.indentation) ≡ true
      deeper = ap (λ p. is_deeper p (behind_dash line.indentation)) (sym at) ∙ deeper-dash line.indentation
  out-further (Stand x u f n) h = block-out dashes kind Pairs indentation (behind_dash line.indentation) x (spelled u ++ (spelled f ++ spelled n) ++ lines) dashes deeper h.here
    where
      deeper : is_deeper indentation (behind_dash line.indentation) ≡ true
      deeper = ap (λ p. is_deeper p (behind_dash line.indentation)) (sym at) ∙ deeper-dash line.indentation

further-any : (b : Bool) (Inside : Type 0) → Inside → RefusesFurther b Inside
further-any true Inside x = x
further-any false Inside x = tt

under-any : (left : ℕ) (dashes : List (List ℕ)) (above : Line) (under : Outline) (rest : List Line) → MayStandUnder left above under → Flat dashes above rest
    → (Out dashes (first_kind under) (first_indentation under) rest → Refuses (left - 1) dashes (first_kind under) (first_indentation under) under rest)
    → RefusesUnder left dashes above under rest (Refuses (left - 1) dashes (first_kind under) (first_indentation under) under rest)
under-any left dashes above End rest may flat inside = flat-begins left dashes above rest flat
under-any left dashes above (Stand x u f n) rest may flat inside = inside (flat-out dashes above (kind_of x.entry) x.indentation rest may.deeper flat)

-- Nothing that is open in a block takes a line that stands outside it.
pub out-refuses : (left : ℕ) (dashes : List (List ℕ)) (kind : Kind) (indentation : List ℕ) (outline : Outline) (lines : List Line) → AreInBlock left dashes kind indentation outline → Out dashes kind indentation lines
    → Refuses left dashes kind indentation outline lines
out-refuses left dashes kind indentation End lines g o = out-next dashes kind indentation lines o
out-refuses left dashes kind indentation (Stand line under further next) lines g o = record {
  under = under-any left (dashes_under dashes line) line under (spelled further ++ (spelled next ++ lines)) g.may_under
      (flat-further left dashes kind indentation line lines g.here o further next g.may_further g.is_further g.is_next)
      (out-refuses (left - 1) (dashes_under dashes line) (first_kind under) (first_indentation under) under (spelled further ++ (spelled next ++ lines)) g.is_under);
  further = further-any (begins_map line.entry) (Refuses left dashes Pairs (behind_dash line.indentation) further (spelled next ++ lines))
      (out-refuses left dashes Pairs (behind_dash line.indentation) further (spelled next ++ lines) g.is_further (out-further left dashes kind indentation line lines g.here o next g.is_next));
  next = out-refuses left dashes kind indentation next lines g.is_next o;
}
