-- What is read of an expression holds the trees of the bodies of its closures.
use Rattle.std.proofs.Common.{◌≡◌, ℕ, zero, suc, ◌+◌, ◌≤◌, ◌<◌, Bool, true, false, List, [], ◌∷◌, Option, Some, None, refl, sym, ap, subst, ◌∙◌, arith}
use Rattle.std.specs.Prelude.{◌==◌, nat_le, if◌then◌else◌}
use Rattle.std.proofs.lemmas.Bool.{leb-true, eqb-true}
use Rattle.stan_model_grammar.specs.declared.token.Token.{Token}
use Rattle.stan_model_grammar.specs.Sites.{HeldBody, sites, bodies_among}
use Rattle.stan_model_statements.specs.Grammar.{Ends}
use Rattle.stan_model_statements.specs.Takes.{IsForestOf}
use Rattle.stan_model_files.specs.Shapes.{Shape, Bodies, no_body, body, expr, forest, inside, depth, bodies_depth, Holds, HoldBodies}
use Rattle.stan_expr_rules.specs.Parse.{Read}
use Rattle.stan_stmt_rules.specs.Parse as parse
use Rattle.stan_stmt_rules.specs.Parse.{most}
use Rattle.stan_stmt_parts.specs.Parse.{Putting, read}
use Rattle.stan_stmt_bodies.specs.Values.{block_at, ended, body_at, bodies_at, valued, value_at}
use Rattle.stan_stmt_bodies.proofs.Unrolled.{value_is}
use Rattle.stan_stmt_law.proofs.Expressions.{behind, Picked, are_expressions, sound}
use Rattle.stan_stmt_law.proofs.Reading.{bind_ok}
use Rattle.stan_stmt_law.proofs.Words.{some_is}
use Rattle.stan_read_law.proofs.Insides.{Greedy, inside_tree}
use Rattle.stan_read_law.proofs.Sound.{Valued, Values, Found, run_sound, read_sound}

guarded : {A : Type 0} (c : Bool) (x : Option A) (y : A) → (if c then x else None) ≡ Some y → (c ≡ true) × (x ≡ Some y)
guarded true x y h = (refl, h)
guarded false x y h = absurd cc

module _ (ts : List Token) (named : Token → Bool) where
  abbrev pub ValuesRead : ℕ → Type 0
  ValuesRead = Values ts named (Ends ts) (Picked ts) (behind ts) (are_expressions ts) (parse.expression ts) (parse.behind ts) (sound ts) (value_at ts named)

  abbrev FoundRead : ℕ → ℕ → Shape × ℕ → Type 0
  FoundRead levels at y = Found ts named (Ends ts) (Picked ts) (behind ts) (are_expressions ts) (parse.expression ts) (parse.behind ts) (sound ts) (value_at ts named) levels inside at y

  block_sound : (room levels at : ℕ) (y : Shape × ℕ) → ((m : ℕ) → m ≤ room → ValuesRead m) → levels ≤ most → block_at ts named (value_at ts named) room levels at ≡ Some y → FoundRead levels at y
  block_sound room levels at y values le h =
      run_sound ts named (Ends ts) (Picked ts) (behind ts) (are_expressions ts) (parse.expression ts) (parse.behind ts) (sound ts) (value_at ts named) room (values room (omega arith))
      (read ts named (value_at ts named) (parse.behind ts) room levels) levels
      (λ q b x i. read_sound ts named (Ends ts) (Picked ts) (behind ts) (are_expressions ts) (parse.expression ts) (parse.behind ts) (sound ts) (value_at ts named) room (λ m lt. values m (omega (arith, lt))) levels q b x i)
      inside at y le refl h

  ended_is : (held : HeldBody) (r : Read Shape) (f : Shape) → ended ts named (value_at ts named) held r ≡ Some f → (b : ℕ) × (r ≡ Some (f, b)) × (b ≡ held.last + 1)
  ended_is held (Some y) f h =
      let g = guarded (y.1 == held.last + 1) (let o : Shape → Option Shape = Some in o y.0) f h in
      (y.1, ap (λ (z : Shape). let o : Shape × ℕ → Option (Shape × ℕ) = Some in o (z, y.1)) (some_is y.0 f g.1), eqb-true y.1 (held.last + 1) g.0)
  ended_is held None f h = absurd cc

  abbrev BodyHeld : ℕ → HeldBody → Shape → Type 0
  BodyHeld levels held f = IsForestOf ts named inside (forest f) held.first (held.last + 1) × Holds ts named f held.first × (held.levels + (1 + depth f) + levels ≤ most)

  body_sound : (room levels : ℕ) (held : HeldBody) (f : Shape) → ((m : ℕ) → m < room → ValuesRead m) → body_at ts named (value_at ts named) room levels held ≡ Some f → BodyHeld levels held f
  body_sound zero levels held f values h = absurd cc
  body_sound (suc n) levels held f values h =
      let g = guarded (nat_le (levels + held.levels + 1) most) (ended ts named (value_at ts named) held (block_at ts named (value_at ts named) n (levels + held.levels + 1) held.first)) f h in
      let fits : levels + held.levels + 1 ≤ most = leb-true (levels + held.levels + 1) most g.0 in
      let e = ended_is held (block_at ts named (value_at ts named) n (levels + held.levels + 1) held.first) f g.1 in
      let w = block_sound n (levels + held.levels + 1) held.first (f, e.0) (λ m le. values m (omega (arith, le))) fits e.1 in
      (inside_tree ts named (forest f) held.first (held.last + 1) (subst (λ z. Greedy ts named inside (forest f) held.first z) e.2 w.reads), w.held, omega (arith, w.flat))

  bodies_sound : (room levels : ℕ) (hs : List HeldBody) (bs : Bodies) → ((m : ℕ) → m < room → ValuesRead m) → levels ≤ most → bodies_at ts named (value_at ts named) room levels hs ≡ Some bs
      → HoldBodies ts named bs hs × (bodies_depth bs + levels ≤ most)
  bodies_sound room levels [] bs values le h = subst (λ z. HoldBodies ts named z [] × (bodies_depth z + levels ≤ most)) (some_is no_body bs h) (tt, omega (arith, le))
  bodies_sound room levels (held ∷ hs) bs values le h =
      let a = bind_ok (body_at ts named (value_at ts named) room levels held) _ bs h in
      let o = bind_ok (bodies_at ts named (value_at ts named) room levels hs) _ bs a.2 in
      let is = body_sound room levels held a.0 values a.1 in
      let more = bodies_sound room levels hs o.0 values le o.1 in
      subst (λ z. HoldBodies ts named z (held ∷ hs) × (bodies_depth z + levels ≤ most)) (some_is (body held a.0 o.0) bs o.2) ((refl, is.0, is.1, more.0), omega (arith, is.2, more.1))

  value_sound : (room : ℕ) → ((m : ℕ) → m < room → ValuesRead m) → ValuesRead room
  value_sound room values levels p at v le h =
      let i : valued ts named (value_at ts named) room levels p at ≡ Some v = sym (value_is ts named room levels p at) ∙ h in
      let a = bind_ok (parse.expression ts levels p at) _ v i in
      let o = bind_ok (bodies_at ts named (value_at ts named) room levels (bodies_among (sites 0 a.0.0))) _ v a.2 in
      let is = sound ts levels p at a.0 le a.1 in
      let bs = bodies_sound room levels (bodies_among (sites 0 a.0.0)) o.0 values le o.1 in
      subst (λ (z : Putting × ℕ). Valued ts named (Ends ts) (Picked ts) (behind ts) (are_expressions ts) (parse.expression ts) (parse.behind ts) (sound ts) (value_at ts named) levels p at z) (some_is (expr a.0.0 o.0, a.0.1) v o.2)
      (record { tree = a.0.0; bodies = o.0; put_is = refl; picked = is.0; held_bodies = bs.0; shallow = omega (arith, is.1, bs.1) })

  -- with whatever room
  pub values_sound : (n m : ℕ) → m < n → ValuesRead m
  values_sound zero m lt = absurd (omega (arith, lt))
  values_sound (suc n) m lt = value_sound m (λ k less. values_sound n k (omega (arith, lt, less)))
