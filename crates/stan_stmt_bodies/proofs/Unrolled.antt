-- What is read of an expression reads its bodies by itself, with less room.
use Rattle.std.proofs.Common.{◌≡◌, ℕ, zero, suc, ◌+◌, ◌≤◌, ◌<◌, Bool, true, false, List, [], ◌∷◌, ◌++◌, length, Option, Some, None, refl, sym, ap, ◌∙◌, ◌⊎◌, inl, inr, arith}
use Rattle.std.specs.Prelude.{nat_le, if◌then◌else◌}
use Rattle.stan_model_grammar.specs.declared.token.Token.{Token}
use Rattle.stan_model_grammar.specs.declared.token.TokenKind.{TokenKind}
use Rattle.stan_model_grammar.specs.Sites.{HeldBody, sites, bodies_among}
use Rattle.stan_expr_rules.specs.Parse.{Read, ◌>>=◌}
use Rattle.stan_model_statements.specs.Symbols.{Sort}
use Rattle.stan_model_statements.specs.Rules.{Rule, symbols, weight}
use Rattle.stan_model_files.specs.Shapes.{Shape, Bodies, expr, inside}
use Rattle.stan_stmt_rules.specs.Ahead.{pick_at}
use Rattle.stan_stmt_rules.specs.Parse.{choose, expression, behind, most}
use Rattle.stan_stmt_parts.specs.Parse.{Piece, Putting, pieced, one, may, many, all, run_by, run, read}
use Rattle.stan_stmt_bodies.specs.Values.{block_at, ended, body_at, bodies_at, valued, nested, value_at}

-- functions that give the same are the same
pub fun_ext : {A B : Type 0} {f g : A → B} → ((x : A) → f x ≡ g x) → f ≡ g
fun_ext h = λ i x. h x i

module _ (ts : List Token) (named : Token → Bool) where
  module _ (v w : ℕ → ℕ → Bool → ℕ → Read Putting) where
    many_same : (below : Rule → ℕ → Read Shape) (levels n : ℕ) (s : Sort) (found : List Piece) (at : ℕ)
        → many ts named v (behind ts) below levels n s found at ≡ many ts named w (behind ts) below levels n s found at
    many_same below levels zero s found at = refl
    many_same below levels (suc n) s found at =
        ap (λ f. choose (pick_at ts (behind ts levels) s at) f (let o : List Piece × ℕ → Option (List Piece × ℕ) = Some in o (found, at)))
        (fun_ext (λ r. ap (λ f. pieced ts named v (behind ts) below levels r at >>= f) (fun_ext (λ p. many_same below levels n s (found ++ p.0 ∷ []) p.1))))

    -- parts depend on what is read below them alone
    one_same : (below : Rule → ℕ → Read Shape) (levels : ℕ) → one ts named v (behind ts) below levels ≡ one ts named w (behind ts) below levels
    unfolding one
    one_same below levels = refl

    may_same : (below : Rule → ℕ → Read Shape) (levels : ℕ) → may ts named v (behind ts) below levels ≡ may ts named w (behind ts) below levels
    unfolding may
    may_same below levels = refl

    all_same : (below : Rule → ℕ → Read Shape) (levels : ℕ) → all ts named v (behind ts) below levels ≡ all ts named w (behind ts) below levels
    unfolding all
    all_same below levels = fun_ext (λ s. fun_ext (λ at. many_same below levels (length ts + 1) s [] at))

    run_same : (below : Rule → ℕ → Read Shape) (levels room : ℕ) → v room ≡ w room → run ts named v (behind ts) below levels room ≡ run ts named w (behind ts) below levels room
    run_same below levels room e = rw (e, one_same below levels, may_same below levels, all_same below levels) refl

    read_same : (n : ℕ) → ((m : ℕ) → m < n → v m ≡ w m) → read ts named v (behind ts) n ≡ read ts named w (behind ts) n
    read_same zero h = refl
    read_same (suc n) h = fun_ext (λ levels. fun_ext (λ r. fun_ext (λ at.
        ap (λ (x : Read Shape). if nat_le (levels + weight r) most then x else None)
        (ap (λ f. run ts named v (behind ts) (f (levels + weight r)) (levels + weight r) n (symbols r) at) (read_same n (λ m lt. h m (omega (arith, lt))))
        ∙ ap (λ f. f (symbols r) at) (run_same (read ts named w (behind ts) n (levels + weight r)) (levels + weight r) n (h n (omega arith)))))))

    block_same : (room : ℕ) → ((m : ℕ) → m ≤ room → v m ≡ w m) → block_at ts named v room ≡ block_at ts named w room
    block_same room h = fun_ext (λ levels. fun_ext (λ at.
        ap (λ f. run ts named v (behind ts) (f levels) levels room inside at) (read_same room (λ m lt. h m (omega (arith, lt))))
        ∙ ap (λ f. f inside at) (run_same (read ts named w (behind ts) room levels) levels room (h room (omega arith)))))

    body_same : (room levels : ℕ) (held : HeldBody) → ((m : ℕ) → m < room → v m ≡ w m) → body_at ts named v room levels held ≡ body_at ts named w room levels held
    body_same zero levels held h = refl
    body_same (suc n) levels held h =
        ap (λ f. if nat_le (levels + held.levels + 1) most then ended ts named v held (f (levels + held.levels + 1) held.first) else None) (block_same n (λ m le. h m (omega (arith, le))))

    bodies_same : (room levels : ℕ) (hs : List HeldBody) → ((m : ℕ) → m < room → v m ≡ w m) → bodies_at ts named v room levels hs ≡ bodies_at ts named w room levels hs
    bodies_same room levels [] h = refl
    bodies_same room levels (held ∷ hs) h = rw (body_same room levels held h, bodies_same room levels hs h) refl

    valued_same : (room : ℕ) → ((m : ℕ) → m < room → v m ≡ w m) → valued ts named v room ≡ valued ts named w room
    valued_same room h = fun_ext (λ levels. fun_ext (λ p. fun_ext (λ at.
        ap (λ f. expression ts levels p at >>= f) (fun_ext (λ e. ap (λ (o : Option Bodies). o >>= λ bs. Some (expr e.0 bs, e.1)) (bodies_same room levels (bodies_among (sites 0 e.0)) h))))))

  -- as many bodies in one another as there is room are enough
  nested_same : (n m room : ℕ) → room < n → room < m → nested ts named n room ≡ nested ts named m room
  nested_same zero m room l k = absurd (omega (arith, l))
  nested_same (suc n) zero room l k = absurd (omega (arith, k))
  nested_same (suc n) (suc m) room l k = valued_same (nested ts named n) (nested ts named m) room (λ i lt. nested_same n m i (omega (arith, lt, l)) (omega (arith, lt, k)))

  pub value_is : (room levels : ℕ) (p : Bool) (at : ℕ) → value_at ts named room levels p at ≡ valued ts named (value_at ts named) room levels p at
  unfolding value_at
  value_is room levels p at = ap (λ f. f levels p at) (valued_same (nested ts named room) (λ m. nested ts named (suc m) m) room (λ m lt. nested_same room (suc m) m lt (omega arith)))
