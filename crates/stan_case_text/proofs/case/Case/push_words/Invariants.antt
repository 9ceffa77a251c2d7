use Rattle.std.proofs.Common.{◌≡◌}
use Rattle.stan_case_text.proofs.case.Case.push_words.Given as goal

abbrev pub invariant-loop-word : goal.invariant-loop-word
invariant-loop-word l =
    (goal.iterator-loop-word).can_next l.word-iterator ×
    (goal.iterator-loop-word).is_finite l.word-iterator ×
    (l.self.name ≡ l.initial.self.name)
