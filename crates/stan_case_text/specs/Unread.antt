-- What is printed where cases could not be read.
use Rattle.std.specs.Prelude.{ℕ, List, ◌++◌, codes, decimal}
use Rattle.stan_case_text.specs.declared.case.Unread.{Unread}
use Rattle.stan_case_text.specs.declared.case.Why.{Why}
use Rattle.stan_case_text.specs.declared.case.Why.TheVariants.{Form, OutOfMemory}

abbrev pub text_at : ℕ → Why → List ℕ
text_at line Form = codes "line " ++ decimal line ++ codes " is none of a case"
text_at line OutOfMemory = codes "out of memory at line " ++ decimal line

abbrev pub unread_text : Unread → List ℕ
unread_text unread = text_at unread.line unread.why
