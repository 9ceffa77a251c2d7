use Rattle.std.proofs.Common.{◌≡◌, List, [], ◌∷◌, ◌++◌, cond, map}
use Rattle.std.specs.Prelude.{Bool}
use Rattle.stan_model_types.specs.Types as types
use Rattle.stan_model_types.specs.TypeFilters.{EmptyArray, EmptyText, FalseItself, FalseValue, NullItself, Zero, ZeroText, false_part, has_float, may_hold}
use Rattle.stan_type_parts.specs.Parts.{part_of}
use Rattle.stan_type_filters.proofs.Lists.{before}
use Rattle.stan_type_filters.proofs.falsy.push_false_parts.Goals as goal

pub returns : goal.returns
returns c =
    let k : FalseValue → Bool = λ v. may_hold v (part_of c.args.part.now) in
    let floats : List types.Part = cond (has_float (part_of c.args.part.now)) (types.Float ∷ []) [] in
    let s0 : List types.Part = map part_of c.args.out.now.items in
    let s1 : List types.Part = map part_of c.push_false.new.out.items in
    let s2 : List types.Part = map part_of c.push_false-2.new.out.items in
    let s3 : List types.Part = map part_of c.push_false-3.new.out.items in
    let s4 : List types.Part = map part_of c.push_false-4.new.out.items in
    let s5 : List types.Part = map part_of c.push_false-5.new.out.items in
    let s6 : List types.Part = map part_of c.push_false-6.new.out.items in
    let s7 : List types.Part = map part_of c.push_where.new.out.items in
    let last : s7 ≡ s6 ++ floats = rw c.has_float.ensures at c.in_ok-push_where.ensures in
    before false_part k EmptyArray (Zero ∷ EmptyText ∷ ZeroText ∷ FalseItself ∷ NullItself ∷ []) floats s0 s1 s7 c.in_ok-push_false.ensures
    (before false_part k Zero (EmptyText ∷ ZeroText ∷ FalseItself ∷ NullItself ∷ []) floats s1 s2 s7 c.in_ok-push_false-2.ensures
    (before false_part k EmptyText (ZeroText ∷ FalseItself ∷ NullItself ∷ []) floats s2 s3 s7 c.in_ok-push_false-3.ensures
    (before false_part k ZeroText (FalseItself ∷ NullItself ∷ []) floats s3 s4 s7 c.in_ok-push_false-4.ensures
    (before false_part k FalseItself (NullItself ∷ []) floats s4 s5 s7 c.in_ok-push_false-5.ensures
    (before false_part k NullItself [] floats s5 s6 s7 c.in_ok-push_false-6.ensures last)))))
