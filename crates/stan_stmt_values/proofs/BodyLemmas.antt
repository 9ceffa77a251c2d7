-- Bodies of closures, one by one.
use Rattle.std.proofs.Common.{◌≡◌, ℕ, zero, suc, ◌+◌, ◌-◌, ◌≤◌, ◌<◌, Bool, true, false, List, [], ◌∷◌, ◌++◌, length, get_or, drop, Option, Some, None, refl, sym, ap, subst, ◌∙◌, arith, map}
use Rattle.std.specs.Prelude.{nat_le, if◌then◌else◌}
use Rattle.std.proofs.lemmas.Bool.{le-leb}
use Rattle.std.proofs.lemmas.List.{drop_all, at_drop_more}
use Rattle.stan_model_grammar.specs.declared.token.Token.{Token}
use Rattle.stan_model_grammar.specs.Sites as model
use Rattle.stan_model_grammar.specs.Sites.{HeldBody, bodies_among}
use Rattle.stan_model_grammar.specs.Trees.{Tree}
use Rattle.stan_expr_rules.specs.Parse.{◌>>=◌}
use Rattle.stan_sites.specs.Sites.{held_of, site_of}
use Rattle.stan_sites.specs.declared.sites.HeldBody.{HeldBody as Held}
use Rattle.stan_sites.specs.declared.sites.Site.{Site}
use Rattle.stan_sites.specs.declared.sites.Site.TheVariants as called
use Rattle.stan_model_files.specs.Put.{put_value}
use Rattle.stan_model_files.specs.Shapes.{expr, Bodies, no_body, body}
use Rattle.stan_model_files.specs.Shapes as shapes
use Rattle.stan_syntax.specs.declared.tree.Expr.{Expr}
use Rattle.stan_syntax.specs.Tree.{tree_of}
use Rattle.stan_stmt_rules.specs.Parse.{behind, expression, most}
use Rattle.stan_stmt_trees.specs.Tree.{body_of, value_of}
use Rattle.stan_stmt_trees.specs.declared.statement.ReadBody.{ReadBody}
use Rattle.stan_stmt_trees.specs.declared.statement.Value.{roll-Value}
use Rattle.stan_stmt_trees.proofs.Layers.{value-made}
use Rattle.stan_stmt_parts.specs.declared.depth.Depth.{Depth}
use Rattle.stan_stmt_parts.specs.Parse.{run, read}
use Rattle.stan_stmt_parts.specs.Gives.{Leaves, inside, part, maybe, every, putting}
use Rattle.stan_stmt_bodies.specs.Values.{block_at, ended, body_at, bodies_at, valued}
use Rattle.stan_stmt_bodies.proofs.Unrolled.{fun_ext}
use Rattle.stan_stmt_values.specs.Held.{shape_of, shapes_of}

module _ (ts : List Token) (l : Leaves) where
  block_is : (d : Depth) (at : ℕ) → inside ts l d shapes.inside at ≡ block_at ts l.named (l.value ts) d.room d.levels at
  unfolding inside part maybe every
  block_is d at = refl

  pub body_is : (room levels : ℕ) (held : HeldBody) → body_at ts l.named (l.value ts) room levels held
      ≡ (if nat_le 1 room then (if nat_le (levels + held.levels + 1) most then ended ts l.named (l.value ts) held (inside ts l (record { room = room - 1; levels = levels + held.levels + 1 }) shapes.inside held.first) else None) else None)
  body_is zero levels held = refl
  body_is (suc n) levels held =
      let some : nat_le 1 (suc n) ≡ true = le-leb 1 (suc n) (omega arith) in
      let less : suc n - 1 ≡ n = omega arith in
      rw (some, block_is (record { room = suc n - 1; levels = levels + held.levels + 1 }) held.first, less) refl

pub putting_made : (tree : Expr) (bodies : List ReadBody) → putting (roll-Value (record { tree = tree; bodies = bodies })) ≡ expr (tree_of tree) (shapes_of bodies)
putting_made tree bodies = ap put_value (value-made tree bodies) ∙ fun_ext (λ f. refl)

-- ---- bodies one behind the other

abbrev pub joined : Bodies → Bodies → Bodies
joined no_body bs = bs
joined (body held f more) bs = body held f (joined more bs)

joined_nothing : (bs : Bodies) → joined bs no_body ≡ bs
joined_nothing no_body = refl
joined_nothing (body held f bs) = ap (body held f) (joined_nothing bs)

joined_more : (found : List ReadBody) (b : ReadBody) (bs : Bodies) → joined (shapes_of (found ++ b ∷ [])) bs ≡ joined (shapes_of found) (body (body_of b).held (shape_of b) bs)
joined_more [] b bs = refl
joined_more (x ∷ found) b bs = ap (body (body_of x).held (shape_of x)) (joined_more found b bs)

module _ (ts : List Token) (l : Leaves) (room levels : ℕ) where
  abbrev pub among : List Site → Option Bodies
  among xs = bodies_at ts l.named (l.value ts) room levels (bodies_among (map site_of xs))

  -- what was found stands before what is read of the other sites
  abbrev pub onwards : Bodies → List Site → Option Bodies
  onwards found xs = among xs >>= λ bs. Some (joined found bs)

  pub at_last : (found : Bodies) (n : ℕ) (xs : List Site) → length xs ≤ n → onwards found (drop n xs) ≡ Some found
  at_last found n xs le = ap (onwards found) (drop_all n xs le) ∙ ap (λ z. let o : Bodies → Option Bodies = Some in o z) (joined_nothing found)

  next_site : (found : Bodies) (xs : List Site) (i : ℕ) (d x : Site) → i < length xs → get_or xs i d ≡ x → onwards found (drop i xs) ≡ onwards found (x ∷ drop (i + 1) xs)
  next_site found xs i d x lt e = at_drop_more (onwards found) xs i d lt ∙ ap (λ z. onwards found (z ∷ drop (i + 1) xs)) e

  pub past_call : (found : Bodies) (xs : List Site) (i : ℕ) (d : Site) (t : Token) → i < length xs → get_or xs i d ≡ called.Call t → onwards found (drop i xs) ≡ onwards found (drop (i + 1) xs)
  past_call found xs i d t lt e = next_site found xs i d (called.Call t) lt e

  pub stops : (found : Bodies) (xs : List Site) (i : ℕ) (d : Site) (held : Held) → i < length xs → get_or xs i d ≡ called.Body held → body_at ts l.named (l.value ts) room levels (held_of held) ≡ None → onwards found (drop i xs) ≡ None
  stops found xs i d held lt e none = next_site found xs i d (called.Body held) lt e ∙ rw none refl

  one_more : (found : List ReadBody) (b : ReadBody) (h : HeldBody) (o : Option Bodies) → (body_of b).held ≡ h
      → (o >>= (λ bs. Some (body h (shape_of b) bs)) >>= λ bs. Some (joined (shapes_of found) bs)) ≡ (o >>= λ bs. Some (joined (shapes_of (found ++ b ∷ [])) bs))
  one_more found b h None e = refl
  one_more found b h (Some bs) e = ap (λ z. let o : Bodies → Option Bodies = Some in o z) (ap (λ z. joined (shapes_of found) (body z (shape_of b) bs)) (sym e) ∙ sym (joined_more found b bs))

  pub past_body : (found : List ReadBody) (xs : List Site) (i : ℕ) (d : Site) (held : Held) (b : ReadBody) → i < length xs → get_or xs i d ≡ called.Body held → body_at ts l.named (l.value ts) room levels (held_of held) ≡ Some (shape_of b) → (body_of b).held ≡ held_of held
      → onwards (shapes_of found) (drop i xs) ≡ onwards (shapes_of (found ++ b ∷ [])) (drop (i + 1) xs)
  past_body found xs i d held b lt e read is = next_site (shapes_of found) xs i d (called.Body held) lt e ∙ rw read (one_more found b (held_of held) (among (drop (i + 1) xs)) is)

-- an expression and its bodies
pub value_read : (ts : List Token) (l : Leaves) (room levels : ℕ) (p : Bool) (at : ℕ) (e : Tree) (to : ℕ) (found : List model.Site) (bs : Bodies)
    → expression ts levels p at ≡ Some (e, to) → found ≡ model.sites 0 e → bodies_at ts l.named (l.value ts) room levels (bodies_among found) ≡ Some bs → valued ts l.named (l.value ts) room levels p at ≡ Some (expr e bs, to)
value_read ts l room levels p at e to found bs h s b =
    let there = subst (λ z. bodies_at ts l.named (l.value ts) room levels (bodies_among z) ≡ Some bs) s b in
    rw h (rw there refl)
