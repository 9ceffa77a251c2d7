-- Lines have one outline at most, and where none is read, none is.
use Rattle.std.proofs.Common.{◌≡◌, ℕ, ◌-◌, List, [], ◌∷◌, ◌++◌, Bool, true, false, refl, sym, ap, subst, ◌∙◌, append-nil}
use Rattle.std.specs.Prelude.{◌&&◌}
use Rattle.stan_model_neon.specs.Outlines.{Line, Outline, End, Stand, spelled, Kind, Pairs, kind_of, begins_map, behind_dash, is_in_block, dashes_under, first_kind, first_indentation, AreInBlock, IsOutline}
use Rattle.stan_neon.specs.Reader.{next_is_in}
use Rattle.stan_neon.specs.Reading.{Read, opens, read_lines, read_outline}
use Rattle.stan_neon.proofs.Refusals.{next_begins, RefusesUnder, RefusesFurther, Refuses, out-refuses}
use Rattle.stan_neon.proofs.Complete.{complete}
use Rattle.stan_neon.proofs.Sound.{IsRead, sound}

-- ---- refusing depends on the next line alone

abbrev Alike : List Line → List Line → Type 0
Alike [] [] = Unit {0}
Alike [] (_ ∷ _) = ⊥
Alike (_ ∷ _) [] = ⊥
Alike (x ∷ _) (y ∷ _) = x ≡ y

alike-behind : (front fs bs : List Line) → Alike fs bs → Alike (front ++ fs) (front ++ bs)
alike-behind [] fs bs h = h
alike-behind (x ∷ front) fs bs h = refl

alike-next : (dashes : List (List ℕ)) (kind : Kind) (indentation : List ℕ) (fs bs : List Line) → Alike fs bs → next_is_in dashes kind indentation fs ≡ false → next_is_in dashes kind indentation bs ≡ false
alike-next dashes kind indentation [] [] h e = e
alike-next dashes kind indentation [] (y ∷ bs) h e = absurd h
alike-next dashes kind indentation (x ∷ fs) [] h e = absurd h
alike-next dashes kind indentation (x ∷ fs) (y ∷ bs) h e = ap (λ l. is_in_block dashes kind indentation l) (sym h) ∙ e

alike-begins : (left : ℕ) (dashes : List (List ℕ)) (above : Line) (fs bs : List Line) → Alike fs bs → next_begins left dashes above fs ≡ false → next_begins left dashes above bs ≡ false
alike-begins left dashes above [] [] h e = e
alike-begins left dashes above [] (y ∷ bs) h e = absurd h
alike-begins left dashes above (x ∷ fs) [] h e = absurd h
alike-begins left dashes above (x ∷ fs) (y ∷ bs) h e = ap (λ l. opens left above l && is_in_block dashes (kind_of l.entry) l.indentation l) (sym h) ∙ e

alike-under : (left : ℕ) (dashes : List (List ℕ)) (above : Line) (outline : Outline) (fs bs : List Line) (A B : Type 0) → Alike fs bs → (A → B) → RefusesUnder left dashes above outline fs A → RefusesUnder left dashes above outline bs B
alike-under left dashes above End fs bs A B h g r = alike-begins left dashes above fs bs h r
alike-under left dashes above (Stand x u f n) fs bs A B h g r = g r

alike-further : (b : Bool) (A B : Type 0) → (A → B) → RefusesFurther b A → RefusesFurther b B
alike-further true A B g r = g r
alike-further false A B g r = tt

alike-refuses : (left : ℕ) (dashes : List (List ℕ)) (kind : Kind) (indentation : List ℕ) (outline : Outline) (fs bs : List Line) → Alike fs bs → Refuses left dashes kind indentation outline fs → Refuses left dashes kind indentation outline bs
alike-refuses left dashes kind indentation End fs bs h r = alike-next dashes kind indentation fs bs h r
alike-refuses left dashes kind indentation (Stand line under further next) fs bs h r =
    let n : Alike (spelled next ++ fs) (spelled next ++ bs) = alike-behind (spelled next) fs bs h in
    let f : Alike (spelled further ++ (spelled next ++ fs)) (spelled further ++ (spelled next ++ bs)) = alike-behind (spelled further) (spelled next ++ fs) (spelled next ++ bs) n in
    record {
      under = alike-under left (dashes_under dashes line) line under (spelled further ++ (spelled next ++ fs)) (spelled further ++ (spelled next ++ bs)) _ _ f
          (alike-refuses (left - 1) (dashes_under dashes line) (first_kind under) (first_indentation under) under (spelled further ++ (spelled next ++ fs)) (spelled further ++ (spelled next ++ bs)) f) r.under;
      further = alike-further (begins_map line.entry) _ _ (alike-refuses left dashes Pairs (behind_dash line.indentation) further (spelled next ++ fs) (spelled next ++ bs) n) r.further;
      next = alike-refuses left dashes kind indentation next fs bs h r.next;
    }

-- ---- whole texts

-- What was read of lines.
pub record IsWhole (lines : List Line) (read : Read) : Type 0 where
  pub spells : spelled read.0 ++ read.1 ≡ lines
  pub is_outline : IsOutline read.0

first-is : (x y : Line) (xs ys : List Line) → x ∷ xs ≡ y ∷ ys → x ≡ y
first-is x y xs ys e = cc e

whole-is : (x : Line) (xs : List Line) (outline : Outline) (rest : List Line) → IsRead 63 [] (kind_of x.entry) x.indentation (x ∷ xs) (outline, rest) → IsWhole (x ∷ xs) (outline, rest)
whole-is x xs End rest h = record { spells = h.spells; is_outline = tt }
whole-is x xs (Stand y u f n) rest h =
    let y_is : y ≡ x = first-is y x _ _ h.spells in
    record { spells = h.spells; is_outline = subst (λ (z : Line). AreInBlock 63 [] (kind_of z.entry) z.indentation (Stand y u f n)) (sym y_is) h.is_block }

pub read-whole : (lines : List Line) → IsWhole lines (read_outline lines)
unfolding read_outline
read-whole [] = record { spells = refl; is_outline = tt }
read-whole (x ∷ xs) = whole-is x xs _ _ (sound 63 [] (kind_of x.entry) x.indentation (x ∷ xs))

read-stand : (x : Line) (under further next : Outline) (lines : List Line) → AreInBlock 63 [] (kind_of x.entry) x.indentation (Stand x under further next)
    → Refuses 63 [] (kind_of x.entry) x.indentation (Stand x under further next) lines → read_outline (spelled (Stand x under further next) ++ lines) ≡ (Stand x under further next, lines)
unfolding read_outline
read-stand x under further next lines g r = complete 63 [] (kind_of x.entry) x.indentation (Stand x under further next) lines g r

-- An outline is read from its lines.
pub outline-read : (outline : Outline) (lines : List Line) → IsOutline outline → spelled outline ≡ lines → read_outline lines ≡ (outline, [])
unfolding read_outline
outline-read End [] g e = refl
outline-read End (x ∷ xs) g e = absurd (cc e)
outline-read (Stand x u f n) lines g e =
    ap read_outline (sym e ∙ sym (append-nil (spelled (Stand x u f n)))) ∙ read-stand x u f n [] g (out-refuses 63 [] (kind_of x.entry) x.indentation (Stand x u f n) [] g tt)

-- So lines have one outline at most.
pub one-outline : (a b : Outline) (lines : List Line) → IsOutline a → IsOutline b → spelled a ≡ lines → spelled b ≡ lines → a ≡ b
one-outline a b lines g h e f = ap (λ (r : Read). r.0) (sym (outline-read a lines g e) ∙ outline-read b lines h f)

stuck-first : (x : Line) (more : List Line) (other : Outline) → is_in_block [] (kind_of x.entry) x.indentation x ≡ false → IsOutline other → spelled other ≡ x ∷ more → ⊥
stuck-first x more End r g e = cc e
stuck-first x more (Stand y u f n) r g e =
    let y_is : y ≡ x = first-is y x _ _ e in
    let b : true ≡ false = sym g.here ∙ ap (λ (z : Line). is_in_block [] (kind_of z.entry) z.indentation z) y_is ∙ r in cc b

stuck-in : (first : Line) (firsts : List Line) (outline : Outline) (x : Line) (rest more : List Line) (other : Outline) → IsRead 63 [] (kind_of first.entry) first.indentation (first ∷ firsts) (outline, x ∷ rest)
    → IsOutline other → spelled other ≡ spelled outline ++ x ∷ more → ⊥
stuck-in first firsts End x rest more other h g e =
    let x_is : x ≡ first = first-is x first _ _ h.spells in
    stuck-first x more other (ap (λ (z : Line). is_in_block [] (kind_of z.entry) z.indentation x) x_is ∙ h.refuses) g e
stuck-in first firsts (Stand y u f n) x rest more other h g e =
    let y_is : y ≡ first = first-is y first _ _ h.spells in
    let block : AreInBlock 63 [] (kind_of y.entry) y.indentation (Stand y u f n) = subst (λ (z : Line). AreInBlock 63 [] (kind_of z.entry) z.indentation (Stand y u f n)) (sym y_is) h.is_block in
    let refuses : Refuses 63 [] (kind_of y.entry) y.indentation (Stand y u f n) (x ∷ rest) = subst (λ (z : Line). Refuses 63 [] (kind_of z.entry) z.indentation (Stand y u f n) (x ∷ rest)) (sym y_is) h.refuses in
    let r : Refuses 63 [] (kind_of y.entry) y.indentation (Stand y u f n) (x ∷ more) = alike-refuses 63 [] (kind_of y.entry) y.indentation (Stand y u f n) (x ∷ rest) (x ∷ more) refl refuses in
    let s : (other, []) ≡ (Stand y u f n, x ∷ more) = sym (outline-read other (spelled (Stand y u f n) ++ x ∷ more) g e) ∙ read-stand y u f n (x ∷ more) block r in
    let b : [] ≡ x ∷ more = ap (λ (p : Read). p.1) s in cc b

-- Where a line is left, no outline spells the lines up to and with it.
pub stuck : (lines : List Line) (x : Line) (rest more : List Line) (other : Outline) → (read_outline lines).1 ≡ x ∷ rest → IsOutline other → spelled other ≡ spelled (read_outline lines).0 ++ x ∷ more → ⊥
unfolding read_outline
stuck [] x rest more other l g e = cc l
stuck (first ∷ firsts) x rest more other l g e =
    let r : Read = read_lines 63 [] (kind_of first.entry) first.indentation (first ∷ firsts) in
    let pair : r ≡ (r.0, x ∷ rest) = ap (λ m. (r.0, m)) l in
    let h : IsRead 63 [] (kind_of first.entry) first.indentation (first ∷ firsts) (r.0, x ∷ rest) =
    subst (λ (p : Read). IsRead 63 [] (kind_of first.entry) first.indentation (first ∷ firsts) p) pair (sound 63 [] (kind_of first.entry) first.indentation (first ∷ firsts)) in
    stuck-in first firsts r.0 x rest more other h g e
