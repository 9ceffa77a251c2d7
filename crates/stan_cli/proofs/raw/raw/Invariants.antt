use Rattle.std.proofs.Common.{◌≡◌, map, take, string_bytes}
use Rattle.stan_cli.specs.Raw.{raw_text}
use Rattle.stan_cli.specs.Files.{file_of}
use Rattle.stan_cli.proofs.raw.raw.Given as goal

-- the lines of the files so far
abbrev pub invariant-loop-file : goal.invariant-loop-file
invariant-loop-file l = string_bytes l.text ≡ raw_text (map file_of (take l.file-index l.files))
