use Rattle.std.proofs.Common.{◌≡◌, List, [], ◌∷◌, ◌++◌, ap, append_assoc, map, refl, sym, ◌∙◌, append-nil}
use Rattle.std.specs.declared.cmp.Ordering.TheVariants.{Less, Equal, Greater}
use Rattle.stan_model_types.specs.Types as model
use Rattle.stan_type_normal.proofs.Placing.{order_is}
use Rattle.stan_type_parts.specs.Parts.{part_of}
use Rattle.stan_type_merge.specs.Merge.{below}
use Rattle.stan_type_merge.proofs.Merging.{above_equal, above_greater, above_less, below_equal, below_greater, below_less, on_ok, tied_equal, tied_greater, tied_less}
use Rattle.stan_type_merge.proofs.merge.+push_below.Goals as goal

pub returns-in_ok-push_copy-in-Less-clause-appended : goal.returns-in_ok-push_copy-in-Less-clause-appended
returns-in_ok-push_copy-in-Less-clause-appended t c =
    let p : model.Part = part_of c.args.part.now in
    let q : model.Part = part_of c.in-Some.first.now in
    let qs : List model.Part = map part_of c.in-Some.others.now in
    let old : List model.Part = map part_of c.args.out.now.items in
    let e : map part_of c.args.parts.now ≡ q ∷ qs = ap (map part_of) c.in-Some.ensures.cases.0 in
    let all : map part_of c.push_copy.new.out.items ++ below p qs ≡ old ++ below p (map part_of c.args.parts.now) =
    ap (λ (zs : List model.Part). zs ++ below p qs) c.in_ok-push_copy-in-Less.ensures ∙ append_assoc old (q ∷ []) (below p qs)
    ∙ ap (λ (zs : List model.Part). old ++ zs) (sym (below_less p q qs (map part_of c.args.parts.now) e (order_is Less q p c.in-Less.ensures.decides))) in
    on_ok c.push_below.result (λ h. h ∙ all) c.push_below.ensures.appended

pub returns-in_ok-push_copy-in-Less-clause-behind : goal.returns-in_ok-push_copy-in-Less-clause-behind
returns-in_ok-push_copy-in-Less-clause-behind t c =
    let p : model.Part = part_of c.args.part.now in
    let q : model.Part = part_of c.in-Some.first.now in
    let qs : List model.Part = map part_of c.in-Some.others.now in
    let e : map part_of c.args.parts.now ≡ q ∷ qs = ap (map part_of) c.in-Some.ensures.cases.0 in
    rw (above_less p q qs (map part_of c.args.parts.now) e (order_is Less q p c.in-Less.ensures.decides)) c.push_below.ensures.behind

pub returns-in_ok-push_copy-in-Less-clause-tied : goal.returns-in_ok-push_copy-in-Less-clause-tied
returns-in_ok-push_copy-in-Less-clause-tied t c =
    let p : model.Part = part_of c.args.part.now in
    let q : model.Part = part_of c.in-Some.first.now in
    let qs : List model.Part = map part_of c.in-Some.others.now in
    let e : map part_of c.args.parts.now ≡ q ∷ qs = ap (map part_of) c.in-Some.ensures.cases.0 in
    on_ok c.push_below.result (tied_less p q qs (map part_of c.args.parts.now) e (order_is Less q p c.in-Less.ensures.decides)) c.push_below.ensures.tied

pub returns-in-Equal-clause-appended : goal.returns-in-Equal-clause-appended
returns-in-Equal-clause-appended t c =
    let p : model.Part = part_of c.args.part.now in
    let q : model.Part = part_of c.in-Some.first.now in
    let qs : List model.Part = map part_of c.in-Some.others.now in
    let old : List model.Part = map part_of c.args.out.now.items in
    let e : map part_of c.args.parts.now ≡ q ∷ qs = ap (map part_of) c.in-Some.ensures.cases.0 in
    sym (ap (λ (zs : List model.Part). old ++ zs) (below_equal p q qs (map part_of c.args.parts.now) e (order_is Equal q p c.in-Equal.ensures.decides)) ∙ append-nil old)

pub returns-in-Equal-clause-behind : goal.returns-in-Equal-clause-behind
returns-in-Equal-clause-behind t c =
    let p : model.Part = part_of c.args.part.now in
    let q : model.Part = part_of c.in-Some.first.now in
    let qs : List model.Part = map part_of c.in-Some.others.now in
    let e : map part_of c.args.parts.now ≡ q ∷ qs = ap (map part_of) c.in-Some.ensures.cases.0 in
    sym (above_equal p q qs (map part_of c.args.parts.now) e (order_is Equal q p c.in-Equal.ensures.decides))

pub returns-in-Equal-clause-tied : goal.returns-in-Equal-clause-tied
returns-in-Equal-clause-tied t c =
    let p : model.Part = part_of c.args.part.now in
    let q : model.Part = part_of c.in-Some.first.now in
    let qs : List model.Part = map part_of c.in-Some.others.now in
    let e : map part_of c.args.parts.now ≡ q ∷ qs = ap (map part_of) c.in-Some.ensures.cases.0 in
    tied_equal p q qs (map part_of c.args.parts.now) e (order_is Equal q p c.in-Equal.ensures.decides) (c.in-Equal.ensures.equal refl)

pub returns-in-Greater-clause-appended : goal.returns-in-Greater-clause-appended
returns-in-Greater-clause-appended t c =
    let p : model.Part = part_of c.args.part.now in
    let q : model.Part = part_of c.in-Some.first.now in
    let qs : List model.Part = map part_of c.in-Some.others.now in
    let old : List model.Part = map part_of c.args.out.now.items in
    let e : map part_of c.args.parts.now ≡ q ∷ qs = ap (map part_of) c.in-Some.ensures.cases.0 in
    sym (ap (λ (zs : List model.Part). old ++ zs) (below_greater p q qs (map part_of c.args.parts.now) e (order_is Greater q p c.in-Greater.ensures.decides)) ∙ append-nil old)

pub returns-in-Greater-clause-behind : goal.returns-in-Greater-clause-behind
returns-in-Greater-clause-behind t c =
    let p : model.Part = part_of c.args.part.now in
    let q : model.Part = part_of c.in-Some.first.now in
    let qs : List model.Part = map part_of c.in-Some.others.now in
    let e : map part_of c.args.parts.now ≡ q ∷ qs = ap (map part_of) c.in-Some.ensures.cases.0 in
    sym (above_greater p q qs (map part_of c.args.parts.now) e (order_is Greater q p c.in-Greater.ensures.decides))

pub returns-in-Greater-clause-tied : goal.returns-in-Greater-clause-tied
returns-in-Greater-clause-tied t c =
    let p : model.Part = part_of c.args.part.now in
    let q : model.Part = part_of c.in-Some.first.now in
    let qs : List model.Part = map part_of c.in-Some.others.now in
    let e : map part_of c.args.parts.now ≡ q ∷ qs = ap (map part_of) c.in-Some.ensures.cases.0 in
    tied_greater p q qs (map part_of c.args.parts.now) e (order_is Greater q p c.in-Greater.ensures.decides)
