-- The tree of a text, and the line at which it has none.
use Rattle.std.proofs.Common.{◌≡◌, ℕ, ◌+◌, ◌<◌, ◌≤◌, zero, suc, List, [], ◌∷◌, ◌++◌, ◌⊎◌, inl, inr, length, take, drop, refl, sym, ap, subst, ◌∙◌, append-nil, append_assoc, arith}
use Rattle.std.specs.Prelude.{Some, None}
use Rattle.std.proofs.lemmas.Bool.{cases_lt}
use Rattle.std.proofs.lemmas.List.{take-append-drop}
use Rattle.stan_model_neon.specs.declared.node.Node.{Node}
use Rattle.stan_model_neon.specs.Nodes.{Mapped}
use Rattle.stan_model_neon.specs.Outlines.{Line, Outline, End, Stand, spelled, node_of, tree_of}
use Rattle.stan_neon_lines.specs.Lines.{lines, contents}
use Rattle.stan_neon.specs.Reader.{next_number}
use Rattle.stan_neon.specs.Reading.{Read, read_outline}
use Rattle.stan_neon.specs.Texts.{IsOutlineOf, BeginText, IsBadLine, IsTreeOf, IsBadAt, most_bytes}
use Rattle.stan_neon.proofs.OutlineLemmas.{read-whole, one-outline, stuck}
use Rattle.stan_neon.proofs.ContentLemmas.{Place, place-of, contents-append}

abbrev of : List ℕ → Read
of text = read_outline (contents 1 (lines text))

-- Where no line is left, the outline is that of the text.
whole-outline : (text : List ℕ) → (of text).1 ≡ [] → IsOutlineOf (lines text) (of text).0
whole-outline text e =
    let w = read-whole (contents 1 (lines text)) in
    record { spells = sym (append-nil (spelled (of text).0)) ∙ ap (λ l. spelled (of text).0 ++ l) (sym e) ∙ w.spells; is_outline = w.is_outline }

-- Fronts of a list.
front-of : {A : Type 0} (k n : ℕ) (l : List A) → k ≤ n → take k (take n l) ≡ take k l
front-of zero n l h = refl
front-of (suc k) zero l h = absurd (omega arith)
front-of (suc k) (suc n) [] h = refl
front-of (suc k) (suc n) (x ∷ l) h = let le : k ≤ n = omega arith in ap (λ m. x ∷ m) (front-of k n l le)

module _ (text : List ℕ) (x : Line) (rest : List Line) (left : (of text).1 ≡ x ∷ rest) where
  abbrev outline : Outline
  outline = (of text).0

  place : Place 1 (lines text) (spelled outline) x
  place =
      let w = read-whole (contents 1 (lines text)) in
      place-of 1 (lines text) (spelled outline) x rest (sym w.spells ∙ ap (λ l. spelled outline ++ l) left)

  number : x.number ≡ suc place.at
  number = omega (arith, place.number_is)

  bad-here : BeginText (take x.number (lines text)) → ⊥
  bad-here b =
      let front = take (suc place.at) (lines text) in
      let n : take x.number (lines text) ≡ front = ap (λ k. take k (lines text)) number in
      let o : Outline = b.1.0 in
      let spells : spelled o ≡ spelled outline ++ (x ∷ contents (1 + length front) b.0) =
      b.1.1.spells ∙ ap (λ f. contents 1 (f ++ b.0)) n ∙ contents-append 1 front b.0 ∙ ap (λ f. f ++ contents (1 + length front) b.0) place.with_it
      ∙ append_assoc (spelled outline) (x ∷ []) (contents (1 + length front) b.0) in
      stuck (contents 1 (lines text)) x rest (contents (1 + length front) b.0) o left b.1.1.is_outline spells

  good-before : (k : ℕ) → k < x.number → BeginText (take k (lines text))
  good-before k lt =
      let n = place.at in
      let le : k ≤ n = omega (arith, number) in
      let front : take k (lines text) ++ drop k (take n (lines text)) ≡ take n (lines text) =
      ap (λ f. f ++ drop k (take n (lines text))) (sym (front-of k n (lines text) le)) ∙ take-append-drop k (take n (lines text)) in (
        drop k (take n (lines text)),
        (
          outline,
          record {
            spells = sym place.front ∙ ap (contents 1) (sym front);
            is_outline = (read-whole (contents 1 (lines text))).is_outline;
          },
        ),
      )

  pub bad-line : IsBadLine (lines text) x.number
  bad-line = record {
    counts_from_one = omega (arith, number);
    within = omega (arith, number, place.within);
    broken = bad-here;
    earlier = good-before;
  }

-- ---- what `read` answers

left-number : (rest : List Line) (line : ℕ) → Some line ≡ next_number rest → (x : Line) × ((more : List Line) × ((rest ≡ x ∷ more) × (line ≡ x.number)))
left-number [] line e = absurd (cc e)
left-number (x ∷ more) line e = (x, (more, (refl, cc e)))

none-left : (rest : List Line) → None ≡ next_number rest → rest ≡ []
none-left [] e = refl
none-left (x ∷ more) e = absurd (cc e)

pub is-bad : (text : List ℕ) (line : ℕ) (ahead left : List Line) → length text ≤ most_bytes → ahead ≡ contents 1 (lines text) → left ≡ (read_outline ahead).1 → Some line ≡ next_number left → IsBadAt text line
is-bad text line ahead left size a l e =
    let here = left-number left line e in
    let rest : (of text).1 ≡ here.0 ∷ here.1.0 = ap (λ (m : List Line). (read_outline m).1) (sym a) ∙ sym l ∙ here.1.1.0 in
    inr (size, subst (λ n. IsBadLine (lines text) n) (sym here.1.1.1) (bad-line text here.0 here.1.0 rest))

node-is : (ls : List Line) (node : Node) → (read_outline ls).1 ≡ [] → (ls ≡ []) ⊎ (node ≡ node_of (read_outline ls).0) → (ls ≡ [] → node ≡ Mapped []) → node ≡ tree_of (read_outline ls).0
unfolding read_outline
node-is [] node l v e = e refl
node-is (x ∷ xs) node l (inl n) e = absurd (cc n)
node-is (x ∷ xs) node l (inr n) e = n ∙ stand (read_outline (x ∷ xs)).0 refl
  where
    stand : (o : Outline) → (read_outline (x ∷ xs)).0 ≡ o → node_of o ≡ tree_of o
    stand End f =
        let w = read-whole (x ∷ xs) in
        let none : [] ≡ x ∷ xs = ap (λ (p : Outline). spelled p ++ []) (sym f) ∙ ap (λ m. spelled (read_outline (x ∷ xs)).0 ++ m) (sym l) ∙ w.spells in
        absurd (cc none)
    stand (Stand y u g m) f = refl

pub is-tree : (text : List ℕ) (node : Node) (ahead left : List Line) → length text ≤ most_bytes → ahead ≡ contents 1 (lines text) → left ≡ (read_outline ahead).1 → None ≡ next_number left
    → (ahead ≡ []) ⊎ (node ≡ node_of (read_outline ahead).0) → (ahead ≡ [] → node ≡ Mapped []) → IsTreeOf text node
is-tree text node ahead left size a l e v n =
    let rest : (read_outline ahead).1 ≡ [] = sym l ∙ none-left left e in
    let whole : (of text).1 ≡ [] = ap (λ (m : List Line). (read_outline m).1) (sym a) ∙ rest in
    record {
      size = size;
      tree = ((of text).0, (whole-outline text whole, node-is ahead node rest v n ∙ ap (λ (m : List Line). tree_of (read_outline m).0) a));
    }

-- ---- laws

pub one-tree : (text : List ℕ) (a b : Node) → IsTreeOf text a → IsTreeOf text b → a ≡ b
one-tree text a b s t =
    let o = s.tree in
    let p = t.tree in
    o.1.1 ∙ ap tree_of (one-outline o.0 p.0 (contents 1 (lines text)) o.1.0.is_outline p.1.0.is_outline o.1.0.spells p.1.0.spells) ∙ sym p.1.1

bad-lines : (of_lines : List (List ℕ)) (a b : ℕ) → IsBadLine of_lines a → IsBadLine of_lines b → a < b → ⊥
bad-lines of_lines a b s t lt = s.broken (t.earlier a lt)

pub one-bad-line : (text : List ℕ) (a b : ℕ) → IsBadAt text a → IsBadAt text b → a ≡ b
one-bad-line text a b (inl s) (inl t) = s.1 ∙ sym t.1
one-bad-line text a b (inl s) (inr t) = absurd (omega (arith, s.0, t.0))
one-bad-line text a b (inr s) (inl t) = absurd (omega (arith, s.0, t.0))
one-bad-line text a b (inr s) (inr t) = by (cases_lt a b) (cases_lt b a)
  where
    by : (a < b) ⊎ (b ≤ a) → (b < a) ⊎ (a ≤ b) → a ≡ b
    by (inl lt) o = absurd (bad-lines (lines text) a b s.1 t.1 lt)
    by (inr le) (inl lt) = absurd (bad-lines (lines text) b a t.1 s.1 lt)
    by (inr le) (inr ge) = omega arith

pub tree-or-bad : (text : List ℕ) (node : Node) (line : ℕ) → IsTreeOf text node → IsBadAt text line → ⊥
tree-or-bad text node line t (inl b) = omega (arith, b.0, t.size)
tree-or-bad text node line t (inr b) =
    let all = lines text in
    let whole : take line all ++ drop line all ≡ all = take-append-drop line all in
    b.1.broken (drop line all, (t.tree.0, record { spells = t.tree.1.0.spells ∙ ap (contents 1) (sym whole); is_outline = t.tree.1.0.is_outline }))

pub answered : (text : List ℕ) → ((node : Node) × IsTreeOf text node) ⊎ ((line : ℕ) × IsBadAt text line)
answered text = by (cases_lt most_bytes (length text))
  where
    rest : length text ≤ most_bytes → (left : List Line) → (of text).1 ≡ left → ((node : Node) × IsTreeOf text node) ⊎ ((line : ℕ) × IsBadAt text line)
    rest size [] e = inl (tree_of (of text).0, record { size = size; tree = ((of text).0, (whole-outline text e, refl)) })
    rest size (x ∷ more) e = inr (x.number, inr (size, bad-line text x more e))

    by : (most_bytes < length text) ⊎ (length text ≤ most_bytes) → ((node : Node) × IsTreeOf text node) ⊎ ((line : ℕ) × IsBadAt text line)
    by (inl long) = inr (1, inl (long, refl))
    by (inr size) = rest size (of text).1 refl
