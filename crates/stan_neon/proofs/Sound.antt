-- What is read is an outline of its lines, and its end refuses what is left.
use Rattle.std.proofs.Common.{◌≡◌, ℕ, ◌-◌, ◌≤◌, zero, suc, List, [], ◌∷◌, ◌++◌, Bool, true, false, length, refl, sym, ap, subst, ◌∙◌, append_assoc, arith}
use Rattle.std.specs.Prelude.{◌&&◌, nat_le, if◌then◌else◌}
use Rattle.std.proofs.lemmas.Bool.Decides.{nat_tests}
use Rattle.stan_model_neon.specs.Outlines.{Line, Outline, End, Stand, spelled, Kind, Pairs, kind_of, is_alone, begins_map, is_deeper, behind_dash, is_in_block, dashes_under, first_kind, first_indentation, Begins, MayStandUnder, MayStandFurther, AreInBlock}
use Rattle.stan_neon.specs.Reading.{Read, opens, opened, under, further, read_lines}
use Rattle.stan_neon.proofs.ReadingLemmas.{opened-shrinks, further-shrinks, read_lines-shrinks, read_lines-step, read_lines-stop, read_lines-end}
use Rattle.stan_neon.proofs.DeeperLemmas.{and-left, and-right}
use Rattle.stan_neon.proofs.Refusals.{next_begins, RefusesUnder, RefusesFurther, Refuses}

-- what was read of lines is a block, and refuses what is left
pub record IsRead (left : ℕ) (dashes : List (List ℕ)) (kind : Kind) (indentation : List ℕ) (lines : List Line) (read : Read) : Type 0 where
  pub spells : spelled read.0 ++ read.1 ≡ lines
  pub is_block : AreInBlock left dashes kind indentation read.0
  pub refuses : Refuses left dashes kind indentation read.0 read.1

-- what was read under a line may stand there
record IsUnder (left : ℕ) (dashes : List (List ℕ)) (above : Line) (lines : List Line) (read : Read) : Type 0 where
  spells : spelled read.0 ++ read.1 ≡ lines
  may : MayStandUnder left above read.0
  is_block : AreInBlock (left - 1) dashes (first_kind read.0) (first_indentation read.0) read.0
  refuses : RefusesUnder left dashes above read.0 read.1 (Refuses (left - 1) dashes (first_kind read.0) (first_indentation read.0) read.0 read.1)

record IsFurther (left : ℕ) (dashes : List (List ℕ)) (line : Line) (lines : List Line) (read : Read) : Type 0 where
  spells : spelled read.0 ++ read.1 ≡ lines
  may : MayStandFurther line read.0
  is_block : AreInBlock left dashes Pairs (behind_dash line.indentation) read.0
  refuses : RefusesFurther (begins_map line.entry) (Refuses left dashes Pairs (behind_dash line.indentation) read.0 read.1)

module _ (left : ℕ) (dashes : List (List ℕ)) (above : Line) (x : Line) (xs : List Line) where
  abbrev Reads : Read → Type 0
  Reads read = IsRead (left - 1) dashes (kind_of x.entry) x.indentation (x ∷ xs) read

  nothing-under : (b : Bool) → opens left above x ≡ b → (b && is_in_block dashes (kind_of x.entry) x.indentation x) ≡ false → IsUnder left dashes above (x ∷ xs) (End, x ∷ xs)
  nothing-under b e f = record { spells = refl; may = tt; is_block = tt; refuses = rw e f }

  some-under : (outline : Outline) (rest : List Line) → opens left above x ≡ true → Reads (outline, rest) → IsUnder left dashes above (x ∷ xs) (outline, rest)
  some-under End rest e h =
      let f : next_begins left dashes above rest ≡ false = by rest h.spells h.refuses in
      record { spells = h.spells; may = tt; is_block = tt; refuses = f }
    where
      by : (rest : List Line) → rest ≡ x ∷ xs → Refuses (left - 1) dashes (kind_of x.entry) x.indentation End rest → next_begins left dashes above rest ≡ false
      by [] s r = refl
      by (y ∷ ys) s r =
          let y_is : y ≡ x = cc s in
          ap (λ z. opens left above z && is_in_block dashes (kind_of z.entry) z.indentation z) y_is ∙ rw e (ap (λ z. is_in_block dashes (kind_of x.entry) x.indentation z) (sym y_is) ∙ r)
  some-under (Stand y u f n) rest e h =
      let y_is : y ≡ x = cc h.spells in
      record {
        spells = h.spells;
        may = subst (λ z. Begins left above z) (sym y_is) begins;
        is_block = subst (λ (z : Line). AreInBlock (left - 1) dashes (kind_of z.entry) z.indentation (Stand y u f n)) (sym y_is) h.is_block;
        refuses = subst (λ (z : Line). Refuses (left - 1) dashes (kind_of z.entry) z.indentation (Stand y u f n) rest) (sym y_is) h.refuses;
      }
    where
      begins : Begins left above x
      begins =
          let room : nat_le 1 left ≡ true = and-left (nat_le 1 left) (is_alone above.entry && is_deeper above.indentation x.indentation) e in
          let rest = and-right (nat_le 1 left) (is_alone above.entry && is_deeper above.indentation x.indentation) e in
          record { room = grind (arith, nat_tests); alone = and-left (is_alone above.entry) (is_deeper above.indentation x.indentation) rest; deeper = and-right (is_alone above.entry) (is_deeper above.indentation x.indentation) rest }

opened-sound : (left : ℕ) (dashes : List (List ℕ)) (above : Line) (lines : List Line)
    → ((kind : Kind) (indentation : List ℕ) → IsRead (left - 1) dashes kind indentation lines (read_lines (left - 1) dashes kind indentation lines))
    → IsUnder left dashes above lines (opened read_lines left dashes above lines)
opened-sound left dashes above [] inside = record { spells = refl; may = tt; is_block = tt; refuses = refl }
opened-sound left dashes above (x ∷ xs) inside = by (opens left above x) refl
  where
    by : (b : Bool) → opens left above x ≡ b → IsUnder left dashes above (x ∷ xs) (if b then read_lines (left - 1) dashes (kind_of x.entry) x.indentation (x ∷ xs) else (End, x ∷ xs))
    by true e = some-under left dashes above x xs _ _ e (inside (kind_of x.entry) x.indentation)
    by false e = nothing-under left dashes above x xs false e refl

further-sound : (left : ℕ) (dashes : List (List ℕ)) (line : Line) (lines : List Line)
    → IsRead left dashes Pairs (behind_dash line.indentation) lines (read_lines left dashes Pairs (behind_dash line.indentation) lines)
    → IsFurther left dashes line lines (further read_lines left dashes line lines)
further-sound left dashes line lines inside = by (begins_map line.entry) refl
  where
    may : (outline : Outline) → begins_map line.entry ≡ true → MayStandFurther line outline
    may End e = tt
    may (Stand x u f n) e = e

    by : (b : Bool) → begins_map line.entry ≡ b → IsFurther left dashes line lines (if b then read_lines left dashes Pairs (behind_dash line.indentation) lines else (End, lines))
    by true e = record { spells = inside.spells; may = may _ e; is_block = inside.is_block; refuses = rw e inside.refuses }
    by false e = record { spells = refl; may = tt; is_block = tt; refuses = rw e tt }

module _ (left : ℕ) (dashes : List (List ℕ)) (kind : Kind) (indentation : List ℕ) (line : Line) (lines : List Line) (here : is_in_block dashes kind indentation line ≡ true) where
  abbrev u : Read
  u = under read_lines left dashes line lines

  abbrev f : Read
  f = further read_lines left dashes line u.1

  abbrev n : Read
  n = read_lines left dashes kind indentation f.1

  joined : IsUnder left (dashes_under dashes line) line lines u → IsFurther left dashes line u.1 f → IsRead left dashes kind indentation f.1 n
      → IsRead left dashes kind indentation (line ∷ lines) (Stand line u.0 f.0 n.0, n.1)
  joined a b c =
      let behind_further : f.1 ≡ spelled n.0 ++ n.1 = sym c.spells in
      let behind_under : u.1 ≡ spelled f.0 ++ (spelled n.0 ++ n.1) = sym b.spells ∙ ap (λ l. spelled f.0 ++ l) behind_further in
      record {
        spells = ap (λ l. line ∷ l)
            (append_assoc (spelled u.0) (spelled f.0 ++ spelled n.0) n.1 ∙ ap (λ l. spelled u.0 ++ l) (append_assoc (spelled f.0) (spelled n.0) n.1)
            ∙ ap (λ l. spelled u.0 ++ l) (sym behind_under) ∙ a.spells);
        is_block = record { here = here; may_under = a.may; may_further = b.may; is_under = a.is_block; is_further = b.is_block; is_next = c.is_block };
        refuses = record {
          under = subst (λ rest. RefusesUnder left (dashes_under dashes line) line u.0 rest (Refuses (left - 1) (dashes_under dashes line) (first_kind u.0) (first_indentation u.0) u.0 rest)) behind_under a.refuses;
          further = subst (λ rest. RefusesFurther (begins_map line.entry) (Refuses left dashes Pairs (behind_dash line.indentation) f.0 rest)) behind_further b.refuses;
          next = c.refuses;
        };
      }

sound-within : (most left : ℕ) (dashes : List (List ℕ)) (kind : Kind) (indentation : List ℕ) (lines : List Line) → length lines ≤ most → IsRead left dashes kind indentation lines (read_lines left dashes kind indentation lines)
sound-within most left dashes kind indentation [] le = rw (read_lines-end left dashes kind indentation) (record { spells = refl; is_block = tt; refuses = refl })
sound-within zero left dashes kind indentation (l ∷ ls) le = absurd (omega arith)
sound-within (suc most) left dashes kind indentation (l ∷ ls) le =
    by (is_in_block dashes kind indentation l) refl
    (λ (p : ℕ) (d : List (List ℕ)) (k : Kind) (i : List ℕ) (m : List Line) (h : length m ≤ most). sound-within most p d k i m h)
  where
    by : (b : Bool) → is_in_block dashes kind indentation l ≡ b
        → ((p : ℕ) (d : List (List ℕ)) (k : Kind) (i : List ℕ) (m : List Line) → length m ≤ most → IsRead p d k i m (read_lines p d k i m))
        → IsRead left dashes kind indentation (l ∷ ls) (read_lines left dashes kind indentation (l ∷ ls))
    by false e more = rw (read_lines-stop left dashes kind indentation l ls e) (record { spells = refl; is_block = tt; refuses = e })
    by true e more =
        let here : length ls ≤ most = omega arith in
        let v : Read = under read_lines left dashes l ls in
        let g : Read = further read_lines left dashes l v.1 in
        let lv : length v.1 ≤ most = omega (arith, opened-shrinks read_lines read_lines-shrinks left (dashes_under dashes l) l ls) in
        let lg : length g.1 ≤ most = omega (arith, further-shrinks read_lines read_lines-shrinks left dashes l v.1) in
        rw (read_lines-step left dashes kind indentation l ls e)
        (joined left dashes kind indentation l ls e
        (opened-sound left (dashes_under dashes l) l ls (λ k i. more (left - 1) (dashes_under dashes l) k i ls here))
        (further-sound left dashes l v.1 (more left dashes Pairs (behind_dash l.indentation) v.1 lv))
        (more left dashes kind indentation g.1 lg))

-- Lines are read as a block of theirs that refuses what is left.
pub sound : (left : ℕ) (dashes : List (List ℕ)) (kind : Kind) (indentation : List ℕ) (lines : List Line) → IsRead left dashes kind indentation lines (read_lines left dashes kind indentation lines)
sound left dashes kind indentation lines = sound-within (length lines) left dashes kind indentation lines (omega arith)
