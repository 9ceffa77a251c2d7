-- Declarations and statements that are read in a row.
use Rattle.std.proofs.Common.{◌≡◌, ℕ, ◌≤◌, ◌<◌, List, [], ◌∷◌, ◌++◌, length, Some, None, refl, sym, subst, ◌∙◌, arith}
use Rattle.stan_model_grammar.specs.declared.token.Token.{Token}
use Rattle.stan_model_statements.specs.Symbols as sorts
use Rattle.stan_model_statements.specs.Tops as tops
use Rattle.stan_model_files.specs.Put.{put_top}
use Rattle.stan_model_files.specs.Shapes.{nil, forest}
use Rattle.stan_stmt_rules.specs.Ahead.{Next}
use Rattle.stan_stmt_parts.specs.Gives.{part}
use Rattle.stan_stmt_parts.specs.declared.depth.Depth.{Depth}
use Rattle.stan_stmt_bodies.specs.Values.{leaves_of}
use Rattle.stan_model_readings.specs.Fronts.{is_strict_types}
use Rattle.stan_stmt_law.proofs.Expressions.{behind, Picked, picked_within}
use Rattle.stan_stmt_law.proofs.Inside.{inside}
use Rattle.stan_stmt_trees.specs.Files.{top_of}
use Rattle.stan_stmt_trees.specs.declared.top.Top.{Top}
use Rattle.stan_stmt_tops.specs.Views.{top_piece}
use Rattle.stan_read_law.specs.Reads.{enough, top_read, AreRead}
use Rattle.stan_model_readings.specs.Fronts.{Ended, IsLongestFront}
use Rattle.stan_read_law.proofs.Trees.{read_is_tree}
use Rattle.stan_read_law.proofs.Rows.{greedy_of, top_rises}
use Rattle.stan_read_law.proofs.Fronts.{read_is_longest_front}
use Rattle.stan_stmt.specs.Fronts.{NextIs, tops_of}

module _ (source : List ℕ) (ts : List Token) (room : ℕ) where
  abbrev pub start : Depth
  start = record { room = room; levels = 0 }

  -- What was read so far: all that stands before this place.
  pub record SoFar (xs : List Top) (at : ℕ) : Type 0 where
    pub read : AreRead ts (is_strict_types source) room (tops_of xs) 0 at
    pub inside_tokens : at ≤ length ts

  part_is : (at : ℕ) → part ts (leaves_of source) start sorts.Top at ≡ top_read ts (is_strict_types source) room at
  unfolding part
  part_is at = refl

  one_behind : (xs : List Top) (x : Top) (from at to : ℕ) → AreRead ts (is_strict_types source) room (tops_of xs) from at → top_read ts (is_strict_types source) room at ≡ Some (top_piece x, to)
      → Ended ts (is_strict_types source) to → AreRead ts (is_strict_types source) room (tops_of (xs ++ x ∷ [])) from to
  unfolding top_piece
  one_behind [] x from at to h read e = (to, subst (λ z. top_read ts (is_strict_types source) room z ≡ Some (top_piece x, to)) (sym h) read, e, refl)
  one_behind (y ∷ ys) x from at to h read e = (h.0, h.1, h.2, one_behind ys x h.0 at to h.3 read e)

  pub first : SoFar [] 0
  first = record { read = refl; inside_tokens = omega arith }

  module _ (xs : List Top) (at : ℕ) (so_far : SoFar xs at) where
    module _ (x : Top) (to : ℕ) (next : NextIs ts (leaves_of source) start at (Some (x, to))) where
      there : top_read ts (is_strict_types source) room at ≡ Some (top_piece x, to)
      there = sym (part_is at) ∙ next.0

      pub one_more : SoFar (xs ++ x ∷ []) to
      unfolding top_piece
      one_more = record {
        read = one_behind xs x 0 at to so_far.read there next.1;
        inside_tokens = inside ts (is_strict_types source) (Picked ts) (Next ts (behind ts)) (picked_within ts) tops.top (forest (put_top (top_of x) nil)) at to refl so_far.inside_tokens
            (greedy_of ts (is_strict_types source) (top_of x) at to (read_is_tree ts (is_strict_types source) room (top_of x) at to there next.1) next.1);
      }

      pub rises : at < to
      unfolding top_piece
      rises = top_rises ts (is_strict_types source) (top_of x) at to (read_is_tree ts (is_strict_types source) room (top_of x) at to there next.1) next.1

    pub longest : enough ≤ room → NextIs ts (leaves_of source) start at None → IsLongestFront ts (is_strict_types source) (tops_of xs) at
    longest le stops = read_is_longest_front ts (is_strict_types source) room le (tops_of xs) at so_far.read (λ p b h e. stops p b (part_is at ∙ h) e)
