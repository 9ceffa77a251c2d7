-- Which refusal a failure of the folder is, and what each refusal is told as.
use Rattle.std.specs.Prelude.{ℕ, List, ◌++◌, codes, decimal}
use Rattle.stan_outside.specs.declared.fail.Fail.{Fail}
use Rattle.stan_outside.specs.declared.fail.Fail.TheVariants as fails
use Rattle.stan_cli.specs.declared.refusal.Refusal.{Refusal}
use Rattle.stan_cli.specs.declared.refusal.Refusal.TheVariants as refusals
use Rattle.stan_cli.specs.declared.refusal.Which.TheVariants as limits

abbrev pub refusal_of_fail : Fail → Refusal
refusal_of_fail fails.Failed = refusals.TreeFault
refusal_of_fail fails.OutOfMemory = refusals.OutOfMemory

-- what is printed of a refusal
abbrev pub refusal_text : Refusal → List ℕ
refusal_text (refusals.BadWords part) = codes "bad words"
refusal_text (refusals.Limit limits.Files counted) = codes "too many files: " ++ decimal counted
refusal_text (refusals.Limit limits.Bytes counted) = codes "too many bytes: " ++ decimal counted
refusal_text refusals.TreeFault = codes "reading the project failed"
refusal_text refusals.SinkFault = codes "output failed"
refusal_text refusals.OutOfMemory = codes "out of memory"
