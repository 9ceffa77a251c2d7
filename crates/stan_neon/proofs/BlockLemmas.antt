-- What stands under a line, as the reader gives it and as the outline says it.
use Rattle.std.proofs.Common.{◌≡◌, ℕ, ◌-◌, ◌<◌, ◌≤◌, List, [], ◌∷◌, ◌++◌, Bool, true, false, length, refl, sym, ap, ◌∙◌, append_assoc, arith}
use Rattle.std.specs.Prelude.{Option, Some, None, nat_le, ◌&&◌, not, if◌then◌else◌, is_none, unwrap_or}
use Rattle.stan_model_neon.specs.declared.node.Node.{Node}
use Rattle.stan_model_neon.specs.declared.node.Entry.{Entry}
use Rattle.stan_model_neon.specs.declared.node.Entry.TheVariants as entries
use Rattle.stan_model_neon.specs.Nodes.{Listed, Mapped}
use Rattle.stan_model_neon.specs.Outlines.{Line, End, Kind, Items, Pairs, kind_of, is_of, is_alone, is_deeper, behind_dash, is_in_block, dashes_under, is_claimed, node_of, items_of, pairs_of, item_of, pair_of}
use Rattle.std.specs.Str.{bytes_eq}
use Rattle.stan_neon.specs.Reader.{next_is_in}
use Rattle.stan_neon.specs.Reading.{Read, opened, under, further, read_lines}
use Rattle.stan_neon.specs.Blocks.{next_kind, block_of, block_under, value_under, item_under, pair_under}
use Rattle.stan_neon.proofs.ReadingLemmas.{opened-shrinks, further-shrinks, read_lines-shrinks, read_lines-step, read_lines-stop, read_lines-end}

module _ (left : ℕ) (dashes : List (List ℕ)) (number : ℕ) (indentation : List ℕ) where
  abbrev line_with : Entry → Line
  line_with entry = record { number = number; indentation = indentation; entry = entry }

  opened-alone : (entry : Entry) (lines : List Line) → is_alone entry ≡ true → opened read_lines left dashes (line_with entry) lines ≡ block_under left dashes indentation lines
  unfolding block_under
  opened-alone entry [] e = refl
  opened-alone entry (l ∷ ls) e = rw e (by (nat_le 1 left && is_deeper indentation l.indentation))
    where
      by : (b : Bool) → (if b then read_lines (left - 1) dashes (kind_of l.entry) l.indentation (l ∷ ls) else (End, l ∷ ls))
          ≡ block_of left dashes (l ∷ ls) (if b then Some (kind_of l.entry, l.indentation) else None)
      by true = refl
      by false = refl

  opened-valued : (entry : Entry) (lines : List Line) → is_alone entry ≡ false → opened read_lines left dashes (line_with entry) lines ≡ (End, lines)
  opened-valued entry [] e = refl
  opened-valued entry (l ∷ ls) e = rw e (by (nat_le 1 left))
    where
      by : (b : Bool) → (if (b && false) then read_lines (left - 1) dashes (kind_of l.entry) l.indentation (l ∷ ls) else (End, l ∷ ls)) ≡ (End, l ∷ ls)
      by true = refl
      by false = refl

  value-is : (entry : Entry) (value : Option Node) (lines : List Line) → is_alone entry ≡ is_none value
      → value_under left dashes value indentation lines ≡ (unwrap_or value (node_of (opened read_lines left dashes (line_with entry) lines).0), (opened read_lines left dashes (line_with entry) lines).1)
  value-is entry None lines e = ap (λ (r : Read). (node_of r.0, r.1)) (sym (opened-alone entry lines e))
  value-is entry (Some node) lines e = ap (λ (r : Read). (node, r.1)) (sym (opened-valued entry lines e))

module _ (left : ℕ) (dashes : List (List ℕ)) (line : Line) (lines : List Line) where
  abbrev below : Read
  below = under read_lines left dashes line lines

  abbrev more : Read
  more = further read_lines left dashes line below.1

item-is : (left : ℕ) (dashes : List (List ℕ)) (number : ℕ) (indentation : List ℕ) (entry : Entry) (lines : List Line) → is_of Items entry ≡ true
    → item_under left dashes (record { number = number; indentation = indentation; entry = entry }) lines
    ≡ (
      item_of entry (node_of (below left dashes (record { number = number; indentation = indentation; entry = entry }) lines).0) (pairs_of (more left dashes (record { number = number; indentation = indentation; entry = entry }) lines).0),
      (more left dashes (record { number = number; indentation = indentation; entry = entry }) lines).1,
    )
unfolding item_under
item-is left dashes number indentation (entries.Item value) lines e = value-is left dashes number indentation (entries.Item value) value lines refl
item-is left dashes number indentation (entries.MapItem key value) lines e =
    ap (λ (r : Node × List Line). (Mapped ((key, r.0) ∷ pairs_of (read_lines left dashes Pairs (behind_dash indentation) r.1).0), (read_lines left dashes Pairs (behind_dash indentation) r.1).1))
    (value-is left (dashes ++ indentation ∷ []) number indentation (entries.MapItem key value) value lines refl)
item-is left dashes number indentation (entries.Pair key value) lines e = absurd (cc e)
item-is left dashes number indentation entries.Broken lines e = absurd (cc e)

pair-is : (left : ℕ) (dashes : List (List ℕ)) (number : ℕ) (indentation : List ℕ) (entry : Entry) (lines : List Line) → is_of Pairs entry ≡ true
    → pair_under left dashes (record { number = number; indentation = indentation; entry = entry }) lines
    ≡ (pair_of entry (node_of (below left dashes (record { number = number; indentation = indentation; entry = entry }) lines).0), (more left dashes (record { number = number; indentation = indentation; entry = entry }) lines).1)
unfolding pair_under
pair-is left dashes number indentation (entries.Pair key value) lines e = ap (λ (r : Node × List Line). ((key, r.0), r.1)) (value-is left dashes number indentation (entries.Pair key value) value lines refl)
pair-is left dashes number indentation (entries.Item value) lines e = absurd (cc e)
pair-is left dashes number indentation (entries.MapItem key value) lines e = absurd (cc e)
pair-is left dashes number indentation entries.Broken lines e = absurd (cc e)

-- ---- one line of a block

in_block-kind : (dashes : List (List ℕ)) (kind : Kind) (indentation : List ℕ) (line : Line) → is_in_block dashes kind indentation line ≡ true → is_of kind line.entry ≡ true
in_block-kind dashes kind indentation line e = by (bytes_eq line.indentation indentation) (is_of kind line.entry) (not (is_claimed dashes line)) e
  where
    by : (a b d : Bool) → (a && (b && d)) ≡ true → b ≡ true
    by true true d e = refl
    by true false d e = e
    by false true d e = refl
    by false false d e = e

module _ (left : ℕ) (dashes : List (List ℕ)) (indentation : List ℕ) (line : Line) (lines : List Line) where
  abbrev items_from : List Line → Read
  items_from from = read_lines left dashes Items indentation from

  abbrev pairs_from : List Line → Read
  pairs_from from = read_lines left dashes Pairs indentation from

  pub items-step : is_in_block dashes Items indentation line ≡ true
      → (items_of (items_from (line ∷ lines)).0 ≡ (item_under left dashes line lines).0 ∷ items_of (items_from (item_under left dashes line lines).1).0)
      × ((items_from (line ∷ lines)).1 ≡ (items_from (item_under left dashes line lines).1).1)
  items-step e =
      let s = read_lines-step left dashes Items indentation line lines e in
      let i = item-is left dashes line.number line.indentation line.entry lines (in_block-kind dashes Items indentation line e) in (
        ap (λ (r : Read). items_of r.0) s ∙ ap (λ (r : Node × List Line). r.0 ∷ items_of (items_from r.1).0) (sym i),
        ap (λ (r : Read). r.1) s ∙ ap (λ (r : Node × List Line). (items_from r.1).1) (sym i),
      )

  pub pairs-step : is_in_block dashes Pairs indentation line ≡ true
      → (pairs_of (pairs_from (line ∷ lines)).0 ≡ (pair_under left dashes line lines).0 ∷ pairs_of (pairs_from (pair_under left dashes line lines).1).0)
      × ((pairs_from (line ∷ lines)).1 ≡ (pairs_from (pair_under left dashes line lines).1).1)
  pairs-step e =
      let s = read_lines-step left dashes Pairs indentation line lines e in
      let i = pair-is left dashes line.number line.indentation line.entry lines (in_block-kind dashes Pairs indentation line e) in (
        ap (λ (r : Read). pairs_of r.0) s ∙ ap (λ (r : (List ℕ × Node) × List Line). r.0 ∷ pairs_of (pairs_from r.1).0) (sym i),
        ap (λ (r : Read). r.1) s ∙ ap (λ (r : (List ℕ × Node) × List Line). (pairs_from r.1).1) (sym i),
      )

pub stop-next : (left : ℕ) (dashes : List (List ℕ)) (kind : Kind) (indentation : List ℕ) (lines : List Line) → next_is_in dashes kind indentation lines ≡ false → read_lines left dashes kind indentation lines ≡ (End, lines)
stop-next left dashes kind indentation [] e = read_lines-end left dashes kind indentation
stop-next left dashes kind indentation (line ∷ lines) e = read_lines-stop left dashes kind indentation line lines e

module _ (left : ℕ) (dashes before after : List (List ℕ)) (indentation : List ℕ) (line : Line) (all rest left_over : List Line) (same : before ≡ dashes) (still : after ≡ before) (first : all ≡ line ∷ rest) where
  module _ (taken : is_in_block before Items indentation line ≡ true) (item_left : left_over ≡ (item_under left after line rest).1) where
    items_taken : is_in_block dashes Items indentation line ≡ true
    items_taken = ap (λ d. is_in_block d Items indentation line) (sym same) ∙ taken

    items_over : left_over ≡ (item_under left dashes line rest).1
    items_over = item_left ∙ ap (λ d. (item_under left d line rest).1) (still ∙ same)

    pub items-smaller : length left_over < length all
    items-smaller =
        let i = item-is left dashes line.number line.indentation line.entry rest (in_block-kind dashes Items indentation line items_taken) in
        let u : Read = under read_lines left dashes line rest in
        let a : length u.1 ≤ length rest = opened-shrinks read_lines read_lines-shrinks left (dashes_under dashes line) line rest in
        let b : length (further read_lines left dashes line u.1).1 ≤ length u.1 = further-shrinks read_lines read_lines-shrinks left dashes line u.1 in
        let n : length left_over ≡ length (further read_lines left dashes line u.1).1 = ap length (items_over ∙ ap (λ (r : Node × List Line). r.1) i) in
        omega (arith, ap length first, a, b, n)

    pub items-kept : (whole done more_done : List Node) (node : Node) → whole ≡ done ++ items_of (read_lines left dashes Items indentation all).0 → node ≡ (item_under left after line rest).0 → more_done ≡ done ++ node ∷ []
        → whole ≡ more_done ++ items_of (read_lines left dashes Items indentation left_over).0
    items-kept whole done more_done node so_far n m =
        let step = items-step left dashes indentation line rest items_taken in
        so_far ∙ ap (λ l. done ++ items_of (read_lines left dashes Items indentation l).0) first ∙ ap (λ ns. done ++ ns) step.0
        ∙ ap (λ l. done ++ ((item_under left dashes line rest).0 ∷ items_of (read_lines left dashes Items indentation l).0)) (sym items_over)
        ∙ ap (λ d. done ++ ((item_under left d line rest).0 ∷ items_of (read_lines left dashes Items indentation left_over).0)) (sym (still ∙ same))
        ∙ ap (λ x. done ++ (x ∷ items_of (read_lines left dashes Items indentation left_over).0)) (sym n)
        ∙ sym (append_assoc done (node ∷ []) (items_of (read_lines left dashes Items indentation left_over).0))
        ∙ ap (λ ns. ns ++ items_of (read_lines left dashes Items indentation left_over).0) (sym m)

    pub items-rest : (whole : List Line) → whole ≡ (read_lines left dashes Items indentation all).1 → whole ≡ (read_lines left dashes Items indentation left_over).1
    items-rest whole so_far =
        let step = items-step left dashes indentation line rest items_taken in
        so_far ∙ ap (λ l. (read_lines left dashes Items indentation l).1) first ∙ step.1 ∙ ap (λ l. (read_lines left dashes Items indentation l).1) (sym items_over)

  module _ (taken : is_in_block before Pairs indentation line ≡ true) (pair_left : left_over ≡ (pair_under left after line rest).1) where
    pairs_taken : is_in_block dashes Pairs indentation line ≡ true
    pairs_taken = ap (λ d. is_in_block d Pairs indentation line) (sym same) ∙ taken

    pairs_over : left_over ≡ (pair_under left dashes line rest).1
    pairs_over = pair_left ∙ ap (λ d. (pair_under left d line rest).1) (still ∙ same)

    pub pairs-smaller : length left_over < length all
    pairs-smaller =
        let i = pair-is left dashes line.number line.indentation line.entry rest (in_block-kind dashes Pairs indentation line pairs_taken) in
        let u : Read = under read_lines left dashes line rest in
        let a : length u.1 ≤ length rest = opened-shrinks read_lines read_lines-shrinks left (dashes_under dashes line) line rest in
        let b : length (further read_lines left dashes line u.1).1 ≤ length u.1 = further-shrinks read_lines read_lines-shrinks left dashes line u.1 in
        let n : length left_over ≡ length (further read_lines left dashes line u.1).1 = ap length (pairs_over ∙ ap (λ (r : (List ℕ × Node) × List Line). r.1) i) in
        omega (arith, ap length first, a, b, n)

    pub pairs-kept : (whole done more_done : List (List ℕ × Node)) (pair : List ℕ × Node) → whole ≡ done ++ pairs_of (read_lines left dashes Pairs indentation all).0 → pair ≡ (pair_under left after line rest).0 → more_done ≡ done ++ pair ∷ []
        → whole ≡ more_done ++ pairs_of (read_lines left dashes Pairs indentation left_over).0
    pairs-kept whole done more_done pair so_far n m =
        let step = pairs-step left dashes indentation line rest pairs_taken in
        so_far ∙ ap (λ l. done ++ pairs_of (read_lines left dashes Pairs indentation l).0) first ∙ ap (λ ns. done ++ ns) step.0
        ∙ ap (λ l. done ++ ((pair_under left dashes line rest).0 ∷ pairs_of (read_lines left dashes Pairs indentation l).0)) (sym pairs_over)
        ∙ ap (λ d. done ++ ((pair_under left d line rest).0 ∷ pairs_of (read_lines left dashes Pairs indentation left_over).0)) (sym (still ∙ same))
        ∙ ap (λ x. done ++ (x ∷ pairs_of (read_lines left dashes Pairs indentation left_over).0)) (sym n)
        ∙ sym (append_assoc done (pair ∷ []) (pairs_of (read_lines left dashes Pairs indentation left_over).0))
        ∙ ap (λ ns. ns ++ pairs_of (read_lines left dashes Pairs indentation left_over).0) (sym m)

    pub pairs-rest : (whole : List Line) → whole ≡ (read_lines left dashes Pairs indentation all).1 → whole ≡ (read_lines left dashes Pairs indentation left_over).1
    pairs-rest whole so_far =
        let step = pairs-step left dashes indentation line rest pairs_taken in
        so_far ∙ ap (λ l. (read_lines left dashes Pairs indentation l).1) first ∙ step.1 ∙ ap (λ l. (read_lines left dashes Pairs indentation l).1) (sym pairs_over)

-- ---- what a block holds

no_pairs : (entry : Entry) → kind_of entry ≡ Items → is_of Pairs entry ≡ false
no_pairs (entries.Item value) e = refl
no_pairs (entries.MapItem key value) e = refl
no_pairs (entries.Pair key value) e = absurd (cc e)
no_pairs entries.Broken e = refl

all_pairs : (entry : Entry) → kind_of entry ≡ Pairs → is_of Pairs entry ≡ true
all_pairs (entries.Item value) e = absurd (cc e)
all_pairs (entries.MapItem key value) e = absurd (cc e)
all_pairs (entries.Pair key value) e = refl
all_pairs entries.Broken e = absurd (cc e)

module _ (left : ℕ) (dashes : List (List ℕ)) (indentation : List ℕ) where
  pub list-is : (lines : List Line) → next_kind lines ≡ Some Items → (items_of (read_lines left dashes Items indentation lines).0 ≡ [] → ⊥)
      → Listed (items_of (read_lines left dashes Items indentation lines).0) ≡ node_of (read_lines left dashes Items indentation lines).0
  list-is [] k n = absurd (cc k)
  list-is (line ∷ lines) k n = by (is_in_block dashes Items indentation line) refl
    where
      kind : kind_of line.entry ≡ Items
      kind = cc k

      by : (b : Bool) → is_in_block dashes Items indentation line ≡ b → Listed (items_of (read_lines left dashes Items indentation (line ∷ lines)).0) ≡ node_of (read_lines left dashes Items indentation (line ∷ lines)).0
      by true e = rw (read_lines-step left dashes Items indentation line lines e, no_pairs line.entry kind) refl
      by false e = absurd (n (ap (λ (r : Read). items_of r.0) (read_lines-stop left dashes Items indentation line lines e)))

  pub map-is : (lines : List Line) → next_kind lines ≡ Some Pairs → (pairs_of (read_lines left dashes Pairs indentation lines).0 ≡ [] → ⊥)
      → Mapped (pairs_of (read_lines left dashes Pairs indentation lines).0) ≡ node_of (read_lines left dashes Pairs indentation lines).0
  map-is [] k n = absurd (cc k)
  map-is (line ∷ lines) k n = by (is_in_block dashes Pairs indentation line) refl
    where
      kind : kind_of line.entry ≡ Pairs
      kind = cc k

      by : (b : Bool) → is_in_block dashes Pairs indentation line ≡ b → Mapped (pairs_of (read_lines left dashes Pairs indentation (line ∷ lines)).0) ≡ node_of (read_lines left dashes Pairs indentation (line ∷ lines)).0
      by true e = rw (read_lines-step left dashes Pairs indentation line lines e, all_pairs line.entry kind) refl
      by false e = absurd (n (ap (λ (r : Read). pairs_of r.0) (read_lines-stop left dashes Pairs indentation line lines e)))
