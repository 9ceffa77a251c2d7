-- An outline whose end refuses what follows is read from its lines.
use Rattle.std.proofs.Common.{◌≡◌, ℕ, ◌-◌, List, [], ◌∷◌, ◌++◌, Bool, true, false, refl, ap, subst, ◌∙◌, append_assoc, arith}
use Rattle.std.specs.Prelude.{◌&&◌, nat_le, if◌then◌else◌}
use Rattle.std.proofs.lemmas.Bool.Decides.{nat_tests}
use Rattle.stan_model_neon.specs.Outlines.{Line, Outline, End, Stand, spelled, Kind, Pairs, kind_of, is_alone, begins_map, is_deeper, behind_dash, is_in_block, dashes_under, first_kind, first_indentation, MayStandUnder, MayStandFurther, AreInBlock}
use Rattle.stan_neon.specs.Reading.{Read, opens, opened, under, further, standing, with_next, with_further, read_lines}
use Rattle.stan_neon.proofs.ReadingLemmas.{read_lines-step, read_lines-stop}
use Rattle.stan_neon.proofs.BlockLemmas.{stop-next}
use Rattle.stan_neon.proofs.DeeperLemmas.{and-both}
use Rattle.stan_neon.proofs.Refusals.{next_begins, RefusesUnder, RefusesFurther, Refuses}

opened-none : (left : ℕ) (dashes : List (List ℕ)) (above : Line) (lines : List Line) → next_begins left dashes above lines ≡ false → opened read_lines left dashes above lines ≡ (End, lines)
opened-none left dashes above [] e = refl
opened-none left dashes above (x ∷ xs) e = by (opens left above x) e
  where
    by : (b : Bool) → (b && is_in_block dashes (kind_of x.entry) x.indentation x) ≡ false → (if b then read_lines (left - 1) dashes (kind_of x.entry) x.indentation (x ∷ xs) else (End, x ∷ xs)) ≡ (End, x ∷ xs)
    by true f = read_lines-stop (left - 1) dashes (kind_of x.entry) x.indentation x xs f
    by false f = refl

opened-some : (left : ℕ) (dashes : List (List ℕ)) (above : Line) (outline : Outline) (rest : List Line) → MayStandUnder left above outline
    → RefusesUnder left dashes above outline rest (Refuses (left - 1) dashes (first_kind outline) (first_indentation outline) outline rest)
    → (Refuses (left - 1) dashes (first_kind outline) (first_indentation outline) outline rest → read_lines (left - 1) dashes (first_kind outline) (first_indentation outline) (spelled outline ++ rest) ≡ (outline, rest))
    → opened read_lines left dashes above (spelled outline ++ rest) ≡ (outline, rest)
opened-some left dashes above End rest may refuses inside = opened-none left dashes above rest refuses
opened-some left dashes above (Stand x u f n) rest may refuses inside =
    let room : nat_le 1 left ≡ true = let r = may.room in grind (arith, nat_tests) in
    let e : opens left above x ≡ true = and-both (nat_le 1 left) (is_alone above.entry && is_deeper above.indentation x.indentation) room (and-both (is_alone above.entry) (is_deeper above.indentation x.indentation) may.alone may.deeper) in
    rw e (inside refuses)

further-some : (left : ℕ) (dashes : List (List ℕ)) (line : Line) (outline : Outline) (rest : List Line) → MayStandFurther line outline
    → RefusesFurther (begins_map line.entry) (Refuses left dashes Pairs (behind_dash line.indentation) outline rest)
    → (Refuses left dashes Pairs (behind_dash line.indentation) outline rest → read_lines left dashes Pairs (behind_dash line.indentation) (spelled outline ++ rest) ≡ (outline, rest))
    → further read_lines left dashes line (spelled outline ++ rest) ≡ (outline, rest)
further-some left dashes line End rest may refuses inside = by (begins_map line.entry) refuses
  where
    by : (b : Bool) → RefusesFurther b (Refuses left dashes Pairs (behind_dash line.indentation) End rest) → (if b then read_lines left dashes Pairs (behind_dash line.indentation) rest else (End, rest)) ≡ (End, rest)
    by true r = inside r
    by false r = refl
further-some left dashes line (Stand x u f n) rest may refuses inside =
    let r : Refuses left dashes Pairs (behind_dash line.indentation) (Stand x u f n) rest =
    subst (λ b. RefusesFurther b (Refuses left dashes Pairs (behind_dash line.indentation) (Stand x u f n) rest)) may refuses in
    rw may (inside r)

-- An outline is read from its lines, where its end refuses what follows.
pub complete : (left : ℕ) (dashes : List (List ℕ)) (kind : Kind) (indentation : List ℕ) (outline : Outline) (lines : List Line) → AreInBlock left dashes kind indentation outline → Refuses left dashes kind indentation outline lines
    → read_lines left dashes kind indentation (spelled outline ++ lines) ≡ (outline, lines)
complete left dashes kind indentation End lines g r = stop-next left dashes kind indentation lines r
complete left dashes kind indentation (Stand line below more next) lines g r =
    let rest_next : List Line = spelled next ++ lines in
    let rest_more : List Line = spelled more ++ rest_next in
    let regroup : (spelled below ++ (spelled more ++ spelled next)) ++ lines ≡ spelled below ++ rest_more =
    append_assoc (spelled below) (spelled more ++ spelled next) lines ∙ ap (λ l. spelled below ++ l) (append_assoc (spelled more) (spelled next) lines) in
    let u : under read_lines left dashes line (spelled below ++ rest_more) ≡ (below, rest_more) =
    opened-some left (dashes_under dashes line) line below rest_more g.may_under r.under
    (complete (left - 1) (dashes_under dashes line) (first_kind below) (first_indentation below) below rest_more g.is_under) in
    let f : further read_lines left dashes line rest_more ≡ (more, rest_next) =
    further-some left dashes line more rest_next g.may_further r.further (complete left dashes Pairs (behind_dash line.indentation) more rest_next g.is_further) in
    let n : read_lines left dashes kind indentation rest_next ≡ (next, lines) = complete left dashes kind indentation next lines g.is_next r.next in
    ap (λ l. read_lines left dashes kind indentation (line ∷ l)) regroup
    ∙ read_lines-step left dashes kind indentation line (spelled below ++ rest_more) g.here
    ∙ ap (λ (w : Read). with_further read_lines left dashes kind indentation line w) u
    ∙ ap (λ (w : Read). with_next read_lines left dashes kind indentation line below w) f
    ∙ ap (λ (w : Read). standing line below more w) n
