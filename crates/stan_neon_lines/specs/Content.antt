-- Contents of the code as the model's.
use Rattle.std.specs.Prelude.{ℕ, List}
use Rattle.stan_model_neon.specs.declared.node.Entry.{Entry}
use Rattle.stan_neon_lines.specs.declared.lines.Content.{Content}

abbrev pub content_of : Content → List ℕ × Entry
content_of content = (content.indentation.now, content.entry)
