-- What is read of a declaration or a statement is a tree of files.
use Rattle.std.proofs.Common.{◌≡◌, ℕ, ◌+◌, ◌≤◌, Bool, List, Some, refl, subst, arith}
use Rattle.stan_model_grammar.specs.declared.token.Token.{Token}
use Rattle.stan_model_grammar.specs.Strata.{kind_at}
use Rattle.stan_model_statements.specs.Grammar.{Ends}
use Rattle.stan_model_statements.specs.Symbols.{Top}
use Rattle.stan_model_statements.specs.Tops as tops
use Rattle.stan_model_statements.specs.Trees as trees
use Rattle.stan_model_statements.specs.Trees.{Namespace, NamespaceBlock, Use, UseGroup, Plain}
use Rattle.stan_model_files.specs.Files.{ReadsTop}
use Rattle.stan_model_files.specs.Put.{put_top}
use Rattle.stan_model_files.specs.Shapes.{nil, forest, depth, Holds}
use Rattle.stan_stmt_rules.specs.Parse as parse
use Rattle.stan_stmt_parts.specs.Parse.{Piece, piece_of, standing, read}
use Rattle.stan_stmt_bodies.specs.Values.{value_at}
use Rattle.stan_file_law.proofs.Depths as depths
use Rattle.stan_stmt_law.proofs.Expressions.{behind, are_expressions, sound, Picked}
use Rattle.stan_stmt_law.proofs.Front.{greedy_is_tree, unowned_is}
use Rattle.stan_read_law.specs.Reads.{top_read}
use Rattle.stan_model_readings.specs.Fronts.{Ended}
use Rattle.stan_read_law.proofs.Insides.{Greedy}
use Rattle.stan_read_law.proofs.Sound.{one_sound, read_sound}
use Rattle.stan_read_law.proofs.Values.{values_sound}

-- what is put of a declaration or a statement is one part
pub one_part : (x : trees.Top) → standing (piece_of (put_top x nil)) nil ≡ put_top x nil
one_part (Namespace t name end) = refl
one_part (NamespaceBlock t name xs) = refl
one_part (Use t kind xs end) = refl
one_part (UseGroup t kind name xs comma end) = refl
one_part (Plain s) = refl

module _ (ts : List Token) (named : Token → Bool) where
  -- what is read at the top
  pub record TopFound (p : Piece) (at to : ℕ) : Type 0 where
    pub greedy : Greedy ts named tops.top (forest (standing p nil)) at to
    pub held : Holds ts named (standing p nil) at
    pub flat : depth (standing p nil) ≤ 200

  pub top_found : (room at : ℕ) (p : Piece × ℕ) → top_read ts named room at ≡ Some p → TopFound p.0 at p.1
  top_found room at p h =
      let is = one_sound ts named (Ends ts) (Picked ts) (behind ts) (are_expressions ts) (parse.expression ts) (parse.behind ts) (sound ts) (value_at ts named) room (values_sound ts named (room + 1) room (omega arith))
      (read ts named (value_at ts named) (parse.behind ts) room 0) 0
      (λ q b x i. read_sound ts named (Ends ts) (Picked ts) (behind ts) (are_expressions ts) (parse.expression ts) (parse.behind ts) (sound ts) (value_at ts named) room (λ m lt. values_sound ts named room m lt) 0 q b x i)
      Top at p h in
      record { greedy = (p.1, is.sort, is.next, is.spelled, refl); held = (is.first, is.inner, tt); flat = omega (arith, is.low) }

  pub read_is_tree : (room : ℕ) (x : trees.Top) (from to : ℕ) → top_read ts named room from ≡ Some (piece_of (put_top x nil), to) → Ended ts named to → ReadsTop ts named x from to
  read_is_tree room x from to h e =
      let w = top_found room from (piece_of (put_top x nil), to) h in
      let greedy = subst (λ z. Greedy ts named tops.top (forest z) from to) (one_part x) w.greedy in
      let flat : depth (put_top x nil) ≤ 200 = subst (λ z. depth z ≤ 200) (one_part x) w.flat in
      record {
        spelled = greedy_is_tree ts named (forest (put_top x nil)) from to (unowned_is (kind_at ts to) e) greedy;
        held = subst (λ z. Holds ts named z from) (one_part x) w.held;
        flat = omega (arith, flat, depths.top_depth x nil);
      }
