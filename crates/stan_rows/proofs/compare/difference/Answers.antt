use Rattle.std.proofs.Common.{◌≡◌, ◌++◌, ℕ, List, Option, String, Global, None, Some, MatchOption, IfSome, inl, inr, refl, sym, ◌∙◌, ap, subst, string_bytes}
use Rattle.std.proofs.lemmas.Str.Pattern.{split_text_parts}
use Rattle.std.specs.Str.{trim}
use Rattle.stan_rows.specs.Signs.{IsWrong, plain_text, wants_sign}
use Rattle.stan_rows.proofs.compare.difference.Goals as goal

none-of : {T : Type 0} (r : Option T) (P : Type 0) (Q : T → Type 0) → MatchOption r P Q → ((x : T) → r ≡ Some x → ⊥) → P
none-of None P Q here _ = here
none-of (Some x) P Q _ never = absurd (never x refl)

wrong-of : (reads : List ℕ → List ℕ → Type 0) (row text wanted : List ℕ) (found : String Global) (r : Option (String Global)) → row ≡ text ++ (wants_sign ++ wanted) → reads (trim text) (string_bytes found) → IfSome r (λ other. (other ≡ found) × (string_bytes found ≡ plain_text (trim wanted) → ⊥)) → IfSome r (λ other. IsWrong reads row (string_bytes other))
wrong-of reads row text wanted found None split read _ = tt
wrong-of reads row text wanted found (Some other) split read (same, unlike) =
    inl (text, wanted, split, subst (λ this. reads (trim text) (string_bytes this)) (sym same) read, λ e. unlike (ap string_bytes (sym same) ∙ e))

pub returns-in_default-clause-wrong : goal.returns-in_default-clause-wrong
returns-in_default-clause-wrong g c =
    inr (none-of c.split_once.result _ _ (split_text_parts wants_sign c.args.row.now c.split_once.result c.split_once.ensures.cases) c.in_default.not-Some)

pub returns-clause-wrong : goal.returns-clause-wrong
returns-clause-wrong g c =
    let split = split_text_parts wants_sign c.args.row.now (Some (c.in-Some.text, c.in-Some.wanted)) c.in-Some.ensures.cases in
    let meant = c.deref.ensures ∙ c.in_ok-wanted.ensures ∙ ap plain_text c.trim-2.ensures.trim in
    let read = subst (λ text. g.K.Reading.reads c.args.kind.now text (string_bytes c.in_ok-found.found)) c.trim.ensures.trim c.in_ok-found.ensures in
    let unwanted = subst (λ wanted. IfSome c.unless_wanted.result (λ other. (other ≡ c.in_ok-found.found) × (string_bytes c.in_ok-found.found ≡ wanted → ⊥))) meant c.unless_wanted.ensures.other in
    wrong-of (g.K.Reading.reads c.args.kind.now) c.args.row.now c.in-Some.text.now c.in-Some.wanted.now c.in_ok-found.found c.unless_wanted.result split read unwanted
