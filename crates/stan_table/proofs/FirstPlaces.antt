-- The first places of names: what one more node changes.
use denote.Enum.Bare.{sameb}
use Rattle.std.proofs.Common.{◌≡◌, ◌⊎◌, ℕ, ◌+◌, ◌<◌, Bool, true, false, List, [], ◌∷◌, ◌++◌, length, map, take, get_or, not, Some, Vec, refl, sym, ap, ◌∙◌, inl, inr, ⊎_elim, arith}
use Rattle.std.specs.Option.{is_some}
use Rattle.std.specs.List.{position}
use Rattle.std.specs.Str.{bytes_eq}
use Rattle.std.specs.Ordering.{nat_cmp, is_eq}
use Rattle.std.specs.Cmp.{eq_by_cmp_equiv}
use Rattle.std.specs.Cmp.Lexicographic.{bytes_decides, slice_cmp, nat_list_cmp_total, nat_list_eq_equiv}
use Rattle.std.specs.BTreeMap.{BTreeMap, UpdatesBy}
use Rattle.std.specs.Map.{KeepsOthers}
use Rattle.std.proofs.lemmas.Bool.{cases_Bool}
use Rattle.std.proofs.lemmas.List.Folds.{position_or_len_push}
use Rattle.std.proofs.lemmas.List.Sums.{prefix_len-le-length}
use Rattle.std.proofs.lemmas.List.{length_push, map_more, length-map, length-take-le}
use Rattle.std.proofs.lemmas.Map.Text.{is_eq-slice_cmp}
use Rattle.stan_base.specs.contracts.ask_kind.AskKind.{the_type}
use Rattle.stan_base.specs.declared.ask_kind.AskKind.{AskKind}
use Rattle.stan_base.specs.declared.ask_kind.AskKind.TheVariants as kinds
use Rattle.stan_base.specs.Names.{fold_name}
use Rattle.stan_model_names.specs.Resolve.{same_ask}
use Rattle.stan_model_table.specs.Table.{Exported, kind_of, name_of, is_named}
use Rattle.stan_table.specs.declared.exported.Exported as exported
use Rattle.stan_table.specs.Table.{node_of}
use Rattle.stan_table.specs.Places.{place_at, Answers}

-- ---- the first place in a list with one more element

module _ {X : Type 0} (p : X → Bool) (xs : List X) where
  position_push_kept : (y : X) → (p y ≡ false) ⊎ (is_some (position p xs) ≡ true) → position p (xs ++ y ∷ []) ≡ position p xs
  position_push_kept y kept = grind (arith, position_or_len_push p xs y, length_push xs y, prefix_len-le-length (λ x. not (p x)) xs)

  position_push_found : (y : X) → p y ≡ true → is_some (position p xs) ≡ false → position p (xs ++ y ∷ []) ≡ Some (length xs)
  position_push_found y found none = grind (arith, position_or_len_push p xs y, length_push xs y, prefix_len-le-length (λ x. not (p x)) xs)

-- ---- a map whose keys are read by their bytes

apart_in_order : (bs cs ks : List ℕ) → bytes_eq bs cs ≡ false → is_eq (slice_cmp nat_cmp bs ks) ≡ true → is_eq (slice_cmp nat_cmp cs ks) ≡ false
apart_in_order bs cs ks n y =
    is_eq-slice_cmp cs ks ∙ nat_list_eq_equiv.symm cs ks ∙ sym (nat_list_eq_equiv.congr bs ks cs (sym (is_eq-slice_cmp bs ks) ∙ y)) ∙ n

module _ {Z : Type 0} (old new : BTreeMap (Vec ℕ Z) ℕ) (bytes : List ℕ) (place : ℕ)
    (puts : UpdatesBy (λ x y. slice_cmp nat_cmp x.items y.items) (λ k. slice_cmp nat_cmp bytes k.items) old new (Some place)) where
  place_at_kept : (name : List ℕ) → bytes_eq bytes name ≡ false → place_at new name ≡ place_at old name
  unfolding KeepsOthers
  place_at_kept name apart = puts.3 (λ k. is_eq (slice_cmp nat_cmp name k.items)) (λ x y. (eq_by_cmp_equiv nat_list_cmp_total).congr name x.items y.items) (λ k. apart_in_order bytes name k.items apart)

-- ---- one more node, in a map of one kind

-- the program's `==` on kinds
pub same_ask-by_eq : (one other : AskKind) → sameb the_type one other ≡ same_ask one other
same_ask-by_eq kinds.Class kinds.Class = refl
same_ask-by_eq kinds.Class kinds.Function = refl
same_ask-by_eq kinds.Class kinds.Constant = refl
same_ask-by_eq kinds.Function kinds.Class = refl
same_ask-by_eq kinds.Function kinds.Function = refl
same_ask-by_eq kinds.Function kinds.Constant = refl
same_ask-by_eq kinds.Constant kinds.Class = refl
same_ask-by_eq kinds.Constant kinds.Function = refl
same_ask-by_eq kinds.Constant kinds.Constant = refl

module _ (kind : AskKind) (table : List Exported) (node : Exported) where
  -- a node of another kind changes nothing
  pub Answers-passed : {Z : Type 0} (places : BTreeMap (Vec ℕ Z) ℕ) → Answers kind places table → same_ask (kind_of node) kind ≡ false → Answers kind places (table ++ node ∷ [])
  Answers-passed places answers other name = answers name ∙ sym (position_push_kept (is_named kind name) table node (inl (rw other refl)))

  module _ (alike : same_ask (kind_of node) kind ≡ true) where
    -- at a node of the kind the names decide
    is_named-by_name : (name : List ℕ) (same : Bool) → bytes_eq (fold_name kind (name_of node)) (fold_name kind name) ≡ same → is_named kind name node ≡ same
    is_named-by_name name same e = rw alike e

    -- a name that has a place keeps it
    pub Answers-kept : {Z : Type 0} (places : BTreeMap (Vec ℕ Z) ℕ) → Answers kind places table → is_some (place_at places (fold_name kind (name_of node))) ≡ true
        → Answers kind places (table ++ node ∷ [])
    Answers-kept places answers some name =
        answers name
        ∙ sym (position_push_kept (is_named kind name) table node
        (⊎_elim
        (λ same. inr (ap is_some (sym (answers name) ∙ ap (place_at places) (sym ((bytes_decides (fold_name kind (name_of node)) (fold_name kind name)).0 same))) ∙ some))
        (λ apart. inl (is_named-by_name name false apart))
        (cases_Bool (bytes_eq (fold_name kind (name_of node)) (fold_name kind name)))))

    module _ {Z : Type 0} (old new : BTreeMap (Vec ℕ Z) ℕ) (bytes : List ℕ) (place : ℕ)
        (puts : UpdatesBy (λ x y. slice_cmp nat_cmp x.items y.items) (λ k. slice_cmp nat_cmp bytes k.items) old new (Some place)) where
      -- a new name has the next place
      pub Answers-added : Answers kind old table → bytes ≡ fold_name kind (name_of node) → is_some (place_at old bytes) ≡ false → place ≡ length table
          → Answers kind new (table ++ node ∷ [])
      Answers-added answers folded none next name =
          ⊎_elim
          (λ same.
          let e : bytes ≡ fold_name kind name = folded ∙ (bytes_decides (fold_name kind (name_of node)) (fold_name kind name)).0 same in
          ap (place_at new) (sym e) ∙ puts.1 ∙ ap Some next
          ∙ sym (position_push_found (is_named kind name) table node (is_named-by_name name true same) (ap is_some (sym (answers name) ∙ ap (place_at old) (sym e)) ∙ none)))
          (λ apart.
          place_at_kept old new bytes place puts (fold_name kind name) (ap (λ bs. bytes_eq bs (fold_name kind name)) folded ∙ apart) ∙ answers name
          ∙ sym (position_push_kept (is_named kind name) table node (inl (is_named-by_name name false apart))))
          (cases_Bool (bytes_eq (fold_name kind (name_of node)) (fold_name kind name)))

-- ---- the nodes up to a place

pub nodes-more : (nodes : List exported.Exported) (at : ℕ) (node : exported.Exported) → at < length nodes → node ≡ get_or nodes at node
    → map node_of (take (at + 1) nodes) ≡ map node_of (take at nodes) ++ node_of node ∷ []
nodes-more nodes at node within is = map_more node_of nodes at node within ∙ ap (λ n. map node_of (take at nodes) ++ node_of n ∷ []) (sym is)

pub length-nodes : (nodes : List exported.Exported) (at : ℕ) → at < length nodes → at ≡ length (map node_of (take at nodes))
length-nodes nodes at within = sym (length-map (take at nodes) node_of ∙ length-take-le at nodes (omega arith))
