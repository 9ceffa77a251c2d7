-- The steps of reading the items of a list.
use Rattle.std.proofs.Common.{◌≡◌, ℕ, ◌+◌, ◌-◌, ◌<◌, ◌≤◌, zero, suc, List, [], ◌∷◌, ◌++◌, Bool, true, length, take, drop, refl, sym, ap, ◌∙◌, append_assoc, length-append, length-drop, eq-eqb, arith}
use Rattle.std.specs.Prelude.{Option, Some, None, slice_index, option_map}
use Rattle.std.specs.Option.{option_and_then}
use Rattle.std.proofs.lemmas.List.{drop-drop, take_rest}
use Rattle.std.proofs.lemmas.Bool.{ne_eqb}
use Rattle.stan_model_neon.specs.declared.node.Node.{Node}
use Rattle.stan_neon_scalars.specs.declared.scalars.ReadNode.{ReadNode}
use Rattle.stan_neon_scalars.specs.ReadNode.{read_node}
use Rattle.stan_neon_scalars.specs.Quotes.{unblanked}
use Rattle.stan_neon_scalars.specs.Numbers.{plain, number, plain_front, magnitude}
use Rattle.stan_neon_scalars.specs.Scalars.{scalar, after_item, items_within, listed_before}
use Rattle.stan_neon_scalars.proofs.QuoteLemmas.{first_after}

-- nodes before those that are read
abbrev pub behind_nodes : List Node → Option (List Node × List ℕ) → Option (List Node × List ℕ)
behind_nodes nodes None = None
behind_nodes nodes (Some (more, rest)) = Some (nodes ++ more, rest)

behind-before : (nodes : List Node) (node : Node) (o : Option (List Node × List ℕ)) → behind_nodes nodes (listed_before node o) ≡ behind_nodes (nodes ++ node ∷ []) o
behind-before nodes node None = refl
behind-before nodes node (Some (more, rest)) = rw append_assoc refl

-- Nothing stands at the end of the bytes.
pub scalar-nothing : (listed : Bool) → scalar listed [] ≡ None
unfolding scalar plain number plain_front magnitude
scalar-nothing listed = refl

scalar-inside : (bytes : List ℕ) (at : ℕ) (read : Node × List ℕ) → at ≤ length bytes → scalar true (drop at bytes) ≡ Some read → at < length bytes
scalar-inside bytes at read le e = by (drop at bytes) refl
  where
    by : (bs : List ℕ) → drop at bytes ≡ bs → at < length bytes
    by [] n =
        let apart : None ≡ Some read = sym (scalar-nothing true) ∙ sym (ap (scalar true) n) ∙ e in
        absurd (cc apart)
    by (b ∷ bs) n = omega (arith, length-drop at bytes, ap length n)

none-within : (n : ℕ) (bs : List ℕ) → scalar true bs ≡ None → items_within n bs ≡ None
none-within zero bs e = refl
none-within (suc n) bs e = ap (option_and_then (λ (read : Node × List ℕ). after_item read.0 (unblanked read.1) (items_within n (unblanked (drop 1 (unblanked read.1)))))) e

some-within : (n : ℕ) (bs : List ℕ) (node : Node) (rest : List ℕ) → scalar true bs ≡ Some (node, rest) → items_within (suc n) bs ≡ after_item node (unblanked rest) (items_within n (unblanked (drop 1 (unblanked rest))))
some-within n bs node rest e = ap (option_and_then (λ (read : Node × List ℕ). after_item read.0 (unblanked read.1) (items_within n (unblanked (drop 1 (unblanked read.1)))))) e

after-comma : (node : Node) (rest : List ℕ) (more : Option (List Node × List ℕ)) → slice_index rest 0 ≡ 44 → after_item node rest more ≡ listed_before node more
after-comma node rest more e = rw (eq-eqb _ _ e) refl

after-end : (node : Node) (rest : List ℕ) (more : Option (List Node × List ℕ)) → slice_index rest 0 ≡ 93 → after_item node rest more ≡ Some (node ∷ [], drop 1 rest)
after-end node rest more e = rw e refl

after-other : (node : Node) (rest : List ℕ) (more : Option (List Node × List ℕ)) → (slice_index rest 0 ≡ 44 → ⊥) → (slice_index rest 0 ≡ 93 → ⊥) → after_item node rest more ≡ None
after-other node rest more m n = rw (ne_eqb _ _ m, ne_eqb _ _ n) refl

module _ (bytes : List ℕ) (from at : ℕ) (nodes : List Node) (whole : Option (List Node × List ℕ)) (within : at ≤ length bytes) (room : length nodes + from ≤ at)
    (so_far : whole ≡ behind_nodes nodes (items_within (length (drop from bytes) - length nodes) (drop at bytes))) where
  pub no_item : None ≡ scalar true (drop at bytes) → None ≡ whole
  no_item e = sym (so_far ∙ ap (behind_nodes nodes) (none-within _ _ (sym e)))

  module _ (node : Node) (end behind byte : ℕ) (read : Some (node, drop (at + end) bytes) ≡ scalar true (drop at bytes)) (behind_is : drop behind bytes ≡ unblanked (drop (at + end) bytes)) (byte_is : byte ≡ slice_index bytes behind) where
    abbrev left : ℕ
    left = length (drop from bytes) - length (nodes ++ node ∷ [])

    left_is : length (drop from bytes) - length nodes ≡ suc left
    left_is =
        let inside : at < length bytes = scalar-inside bytes at _ within (sym read) in
        omega (arith, length-drop from bytes, length-append nodes (node ∷ []))

    first_is : slice_index (unblanked (drop (at + end) bytes)) 0 ≡ byte
    first_is = ap (λ l. slice_index l 0) (sym behind_is) ∙ first_after bytes behind ∙ sym byte_is

    rest_is : drop 1 (unblanked (drop (at + end) bytes)) ≡ drop (behind + 1) bytes
    rest_is = ap (drop 1) (sym behind_is) ∙ drop-drop 1 behind bytes

    step : whole ≡ behind_nodes nodes (after_item node (unblanked (drop (at + end) bytes)) (items_within left (unblanked (drop 1 (unblanked (drop (at + end) bytes))))))
    step = so_far ∙ ap (λ n. behind_nodes nodes (items_within n (drop at bytes))) left_is ∙ ap (behind_nodes nodes) (some-within left _ _ _ (sym read))

    pub one_more : (next : ℕ) → byte ≡ 44 → drop next bytes ≡ unblanked (drop (behind + 1) bytes) → whole ≡ behind_nodes (nodes ++ node ∷ []) (items_within left (drop next bytes))
    one_more next comma next_is =
        step ∙ ap (behind_nodes nodes) (after-comma node (unblanked (drop (at + end) bytes)) _ (first_is ∙ comma)) ∙ behind-before nodes node _
        ∙ ap (λ l. behind_nodes (nodes ++ node ∷ []) (items_within left (unblanked l))) rest_is
        ∙ ap (λ l. behind_nodes (nodes ++ node ∷ []) (items_within left l)) (sym next_is)

    pub last : byte ≡ 93 → Some (nodes ++ node ∷ [], drop (behind + 1) bytes) ≡ whole
    last close = sym (step ∙ ap (behind_nodes nodes) (after-end node (unblanked (drop (at + end) bytes)) (items_within left (unblanked (drop 1 (unblanked (drop (at + end) bytes))))) (first_is ∙ close)) ∙ ap (λ l. Some (nodes ++ node ∷ [], l)) rest_is)

    pub other : (byte ≡ 44 → ⊥) → (byte ≡ 93 → ⊥) → None ≡ whole
    other m n = sym (step ∙ ap (behind_nodes nodes) (after-other node (unblanked (drop (at + end) bytes)) (items_within left (unblanked (drop 1 (unblanked (drop (at + end) bytes))))) (λ e. m (sym first_is ∙ e)) (λ e. n (sym first_is ∙ e))))

-- what a call read from a place on
pub read_from : (bytes : List ℕ) (at : ℕ) (o : Option ReadNode) (read : ReadNode) → option_map (read_node (take (length bytes - at) (drop at bytes))) o ≡ scalar true (take (length bytes - at) (drop at bytes)) → o ≡ Some read
    → Some (read.node, drop (at + read.end) bytes) ≡ scalar true (drop at bytes)
read_from bytes at o read e is =
    ap (λ l. Some (read.node, l)) (sym (drop-drop read.end at bytes))
    ∙ ap (λ l. Some (read.node, drop read.end l)) (sym (take_rest bytes at))
    ∙ ap (option_map (read_node (take (length bytes - at) (drop at bytes)))) (sym is) ∙ e ∙ ap (scalar true) (take_rest bytes at)

pub none_from : (bytes : List ℕ) (at : ℕ) (o : Option ReadNode) → option_map (read_node (take (length bytes - at) (drop at bytes))) o ≡ scalar true (take (length bytes - at) (drop at bytes)) → o ≡ None
    → None ≡ scalar true (drop at bytes)
none_from bytes at o e is =
    ap (option_map (read_node (take (length bytes - at) (drop at bytes)))) (sym is) ∙ e ∙ ap (scalar true) (take_rest bytes at)
