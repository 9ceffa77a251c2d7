use Rattle.std.proofs.Common.{◌≡◌, ◌+◌, ◌++◌, take, drop, sym, subst, ◌∙◌}
use Rattle.std.specs.Prelude.{◌↔◌, IsTrue}
use Rattle.std.proofs.lemmas.Bool.{false≢true}
use Rattle.std.proofs.lemmas.Bool.Decides.{Decides-eqb}
use Rattle.std.proofs.lemmas.Slice.Eq.{starts_is, bytes_eq-Decides}
use Rattle.stan_patterns.specs.Patterns.{BehindAny, Matches}
use Rattle.stan_patterns.proofs.PatternLemmas.{Matches-front, Matches-plain, length-front}
use Rattle.stan_patterns.proofs.matches.Goals as goal

pub returns-in-None : goal.returns-in-None
returns-in-None c =
    let same = bytes_eq-Decides c.args.text.now c.args.pattern.now in
    let plain = Matches-plain c.args.pattern.now c.in-None.ensures c.args.text.now in (
      λ yes. plain.1 (same.0 (sym c.eq.ensures ∙ yes)),
      λ h. c.eq.ensures ∙ same.1 (plain.0 h),
    )

pub returns-then-starts_with : goal.returns-then-starts_with
returns-then-starts_with c =
    let pattern = c.args.pattern.now in
    let text = c.args.text.now in
    let at = c.in-Some.at in
    let starts = starts_is Decides-eqb text (take at pattern) c.starts_with.result c.starts_with.ensures.value in
    let front : text ≡ take at pattern ++ drop at text = subst (λ n. text ≡ take at pattern ++ drop n text) (length-front pattern at c.in-Some.ensures) (starts.0 c.if-starts_with.true) in
    let both = Matches-front pattern at c.in-Some.ensures text in
    let later = c.matches_an_end.ensures in
    let later_both : IsTrue c.matches_an_end.result ↔ BehindAny (Matches (drop (at + 1) pattern)) (drop at text) = rw (c.behind_run.ensures, c.behind.ensures) at later in (
      λ yes. both.1 (front, later_both.0 yes),
      λ h. later_both.1 (both.0 h).1,
    )

pub returns-else-starts_with : goal.returns-else-starts_with
returns-else-starts_with c =
    let pattern = c.args.pattern.now in
    let text = c.args.text.now in
    let at = c.in-Some.at in
    let starts = starts_is Decides-eqb text (take at pattern) c.starts_with.result c.starts_with.ensures.value in (
      λ yes. absurd (false≢true (sym c.if-starts_with.false ∙ yes)),
      λ h. starts.1 (drop at text) ((Matches-front pattern at c.in-Some.ensures text).0 h).0,
    )
