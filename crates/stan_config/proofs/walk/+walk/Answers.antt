use Rattle.std.proofs.Common.{◌∙◌, sym, ap, ◌+◌, ◌-◌, true, false, [], drop, length, map, string_bytes, arith}
use Rattle.stan_config.specs.Views.{files_view, found_view}
use Rattle.stan_config.specs.Walk.{includes_mean, found_nothing}
use Rattle.stan_config_paths.specs.TextSet.{has}
use Rattle.stan_config_said.specs.Views.{said_view, content_view}
use Rattle.stan_outside.specs.Outside.{Rose}
use Rattle.stan_config.proofs.CauseLemmas.{by_itself, alone_good, alone_refused, leads_back, includes_refused, includes_good, was_before, include_refused, include_good}
use Rattle.stan_config.proofs.FolderLemmas.{keeps_then, rose_behind}
use Rattle.stan_config.proofs.ReadLemmas.{added_then, one_read, file_within}
use Rattle.stan_config.proofs.ReadSteps.{behind_file, all_included, read_before, read_next, within_next}
use Rattle.stan_config.proofs.ListLemmas.{leads, next_item, no_item, among}
use Rattle.stan_config.proofs.walk.+walk.Goals as goal
use Rattle.stan_config.proofs.walk.+walk.Goals.{each_include-then-not-has+in-Ok+in_ok-said-in-Ok, each_include-else-not-has}

pub each_include-returns-in-Err-clause-refused : goal.each_include-returns-in-Err-clause-refused
each_include-returns-in-Err-clause-refused g t c =
    let not_in = among false c.has.result (files_view c.loop-include.read) c.as_str.result.now (string_bytes c.include-item.result) c.as_str-then-not-has.result.now c.has.ensures c.as_str.ensures.value c.as_str-then-not-has.ensures.value c.if-not-has.true in
    include_refused (g.T.Tree.contents c.args.tree.now) (has c.args.listed.now) c.args.left (map (λ other. other.now) c.args.chain.now) (found_nothing (files_view c.args.read.now)) (found_view c.loop-include.read c.loop-include.said)
    (map string_bytes c.args.includes.now) (map string_bytes (drop c.loop-include.include-index c.args.includes.now)) (map string_bytes (drop (c.loop-include.include-index + 1) c.args.includes.now)) c.as_str-then-not-has.result.now
    (g.T.Tree.tells c.args.tree.now) c.loop-include.invariant.means
    (next_item c.args.includes.now c.loop-include.include-index c.include-item.result c.as_str-then-not-has.result.now (omega arith) c.include-item.is c.as_str-then-not-has.ensures.value)
    not_in (g.T.Tree.contents c.loop-include.tree) c.loop-include.invariant.keeps.same_contents
    (Rose (g.T.Tree.faults c.args.tree.now) (g.T.Tree.faults c.found_at.new.tree)) (g.T.Tree.tells c.loop-include.tree) (Rose (g.T.Tree.faults c.loop-include.tree) (g.T.Tree.faults c.found_at.new.tree)) c.loop-include.invariant.keeps.tells_alike.0
    (rose_behind g.T.Tree.tells g.T.Tree.contents g.T.Tree.faults g.T.Tree.listings g.T.Tree.never_fails c.args.tree.now c.loop-include.tree c.found_at.new.tree c.loop-include.invariant.keeps)
    c.in-Err.stop c.in-Err.ensures.refused

pub each_include-loop-include-preserved : goal.each_include-loop-include-preserved
each_include-loop-include-preserved g t c = record {
  keeps = elim c.if-not-has.branch [
    | each_include-then-not-has+in-Ok+in_ok-said-in-Ok w ↦ rw w.tree-is (keeps_then g.T.Tree.tells g.T.Tree.contents g.T.Tree.faults g.T.Tree.listings g.T.Tree.never_fails c.args.tree.now c.loop-include.tree w.found_at.new.tree c.loop-include.invariant.keeps w.found_at.ensures.keeps)
    | each_include-else-not-has w ↦ rw w.tree-is c.loop-include.invariant.keeps
  ];
  means = elim c.if-not-has.branch [
    | each_include-then-not-has+in-Ok+in_ok-said-in-Ok w ↦
        let not_in = among false c.has.result (files_view c.loop-include.read) c.as_str.result.now (string_bytes c.include-item.result) w.as_str-then-not-has.result.now c.has.ensures c.as_str.ensures.value w.as_str-then-not-has.ensures.value w.if-not-has.true in
        rw (w.read-is, w.said-is) (include_good (g.T.Tree.contents c.args.tree.now) (has c.args.listed.now) c.args.left (map (λ other. other.now) c.args.chain.now) (found_nothing (files_view c.args.read.now)) (found_view c.loop-include.read c.loop-include.said)
        (map string_bytes c.args.includes.now) (map string_bytes (drop c.loop-include.include-index c.args.includes.now)) (map string_bytes (drop (c.loop-include.include-index + 1) c.args.includes.now)) w.as_str-then-not-has.result.now
        (g.T.Tree.tells c.args.tree.now) c.loop-include.invariant.means
        (next_item c.args.includes.now c.loop-include.include-index c.include-item.result w.as_str-then-not-has.result.now (omega arith) c.include-item.is w.as_str-then-not-has.ensures.value)
        not_in (g.T.Tree.contents c.loop-include.tree) c.loop-include.invariant.keeps.same_contents
        (g.T.Tree.tells c.loop-include.tree) c.loop-include.invariant.keeps.tells_alike.0 (said_view w.in-Ok.first) _ _ w.in-Ok.ensures.found w.in_ok-said-in-Ok.ensures)
    | each_include-else-not-has w ↦
        let is_in = among true c.has.result (files_view c.loop-include.read) c.as_str.result.now (string_bytes c.include-item.result) c.as_str.result.now c.has.ensures c.as_str.ensures.value c.as_str.ensures.value w.if-not-has.false in
        rw (w.read-is, w.said-is) (was_before (g.T.Tree.contents c.args.tree.now) (has c.args.listed.now) c.args.left (map (λ other. other.now) c.args.chain.now) (found_nothing (files_view c.args.read.now)) (found_view c.loop-include.read c.loop-include.said)
        (map string_bytes c.args.includes.now) (map string_bytes (drop c.loop-include.include-index c.args.includes.now)) (map string_bytes (drop (c.loop-include.include-index + 1) c.args.includes.now)) c.as_str.result.now
        (g.T.Tree.tells c.args.tree.now) c.loop-include.invariant.means
        (next_item c.args.includes.now c.loop-include.include-index c.include-item.result c.as_str.result.now (omega arith) c.include-item.is c.as_str.ensures.value) is_in)
  ];
  once = elim c.if-not-has.branch [
    | each_include-then-not-has+in-Ok+in_ok-said-in-Ok w ↦ rw (w.read-is, w.tree-is) (added_then (length (files_view c.args.read.now)) (length (files_view c.loop-include.read)) (length (files_view w.found_at.new.read))
        (g.T.Tree.reads c.args.tree.now) (g.T.Tree.reads c.loop-include.tree) (g.T.Tree.reads w.found_at.new.tree) c.loop-include.invariant.once w.in-Ok.ensures.read_once)
    | each_include-else-not-has w ↦ rw (w.read-is, w.tree-is) c.loop-include.invariant.once
  ];
  reads = elim c.if-not-has.branch [
    | each_include-then-not-has+in-Ok+in_ok-said-in-Ok w ↦
        let not_in = among false c.has.result (files_view c.loop-include.read) c.as_str.result.now (string_bytes c.include-item.result) w.as_str-then-not-has.result.now c.has.ensures c.as_str.ensures.value w.as_str-then-not-has.ensures.value w.if-not-has.true in
        rw w.read-is (λ told neon is.
        read_next (g.T.Tree.contents c.args.tree.now) (has c.args.listed.now) c.args.left (map (λ other. other.now) c.args.chain.now) (files_view c.args.read.now) (files_view c.loop-include.read)
        (map string_bytes c.args.includes.now) (map string_bytes (drop c.loop-include.include-index c.args.includes.now)) (map string_bytes (drop (c.loop-include.include-index + 1) c.args.includes.now)) w.as_str-then-not-has.result.now neon
        (c.loop-include.invariant.reads told neon is) (next_item c.args.includes.now c.loop-include.include-index c.include-item.result w.as_str-then-not-has.result.now (omega arith) c.include-item.is w.as_str-then-not-has.ensures.value) not_in
        (g.T.Tree.contents c.loop-include.tree) c.loop-include.invariant.keeps.same_contents (found_view w.found_at.new.read w.in-Ok.first) (w.in-Ok.ensures.found (c.loop-include.invariant.keeps.tells_alike.0 told) neon is))
    | each_include-else-not-has w ↦
        let is_in = among true c.has.result (files_view c.loop-include.read) c.as_str.result.now (string_bytes c.include-item.result) c.as_str.result.now c.has.ensures c.as_str.ensures.value c.as_str.ensures.value w.if-not-has.false in
        rw w.read-is (λ told neon is.
        read_before (g.T.Tree.contents c.args.tree.now) (has c.args.listed.now) c.args.left (map (λ other. other.now) c.args.chain.now) (files_view c.args.read.now) (files_view c.loop-include.read)
        (map string_bytes c.args.includes.now) (map string_bytes (drop c.loop-include.include-index c.args.includes.now)) (map string_bytes (drop (c.loop-include.include-index + 1) c.args.includes.now)) c.as_str.result.now neon
        (c.loop-include.invariant.reads told neon is) (next_item c.args.includes.now c.loop-include.include-index c.include-item.result c.as_str.result.now (omega arith) c.include-item.is c.as_str.ensures.value) is_in)
  ];
}

pub each_include-returns-clause-found : goal.each_include-returns-clause-found
each_include-returns-clause-found g t c = λ told neon is.
    c.loop-include.invariant.means told neon is
    ∙ ap (λ rest. includes_mean (g.T.Tree.contents c.args.tree.now) (has c.args.listed.now) c.args.left (map (λ other. other.now) c.args.chain.now) (found_view c.loop-include.read c.loop-include.said) rest neon)
    (no_item c.args.includes.now c.loop-include.include-index (omega arith))

pub found_at-returns-in-Err-clause-refused : goal.found_at-returns-in-Err-clause-refused
found_at-returns-in-Err-clause-refused g t c =
    by_itself (g.T.Tree.contents c.args.tree.now) (has c.args.listed.now) c.args.left (map (λ other. other.now) c.args.chain.now) (files_view c.args.read.now) c.args.file.now (g.T.Tree.tells c.args.tree.now) _ c.in-Err.stop c.in-Err.ensures.refused

pub found_at-returns-then-left-eq0-clause-found : goal.found_at-returns-then-left-eq0-clause-found
found_at-returns-then-left-eq0-clause-found g t c =
    alone_good (g.T.Tree.contents c.args.tree.now) (has c.args.listed.now) c.args.left (map (λ other. other.now) c.args.chain.now) (files_view c.args.read.now) c.args.file.now (g.T.Tree.tells c.args.tree.now) ⊥
    (content_view c.in-Ok.content) c.in-Ok.ensures.content c.if-left-eq0.true (files_view c.add.new.self)
    c.in_ok-add.ensures
    c.alone.result c.alone.ensures.said

pub found_at-returns-then-left-eq0-clause-refused : goal.found_at-returns-then-left-eq0-clause-refused
found_at-returns-then-left-eq0-clause-refused g t c =
    alone_refused (g.T.Tree.contents c.args.tree.now) (has c.args.listed.now) c.args.left (map (λ other. other.now) c.args.chain.now) (files_view c.args.read.now) c.args.file.now (g.T.Tree.tells c.args.tree.now) _
    (content_view c.in-Ok.content) c.in-Ok.ensures.content c.if-left-eq0.true c.alone.result c.alone.ensures.refused

pub found_at-returns-then-lead_back-clause-refused : goal.found_at-returns-then-lead_back-clause-refused
found_at-returns-then-lead_back-clause-refused g t c =
    leads_back (g.T.Tree.contents c.args.tree.now) (has c.args.listed.now) c.args.left (map (λ other. other.now) c.args.chain.now) (files_view c.args.read.now) c.args.file.now (g.T.Tree.tells c.args.tree.now) _
    (content_view c.in-Ok.content) c.in-Ok.ensures.content (c.args.left - 1) (omega arith) (map (λ other. other.now) c.in_ok-longer.longer.items) c.in_ok-longer.ensures
    (leads true (map (λ other. other.now) c.deref.result.now) _ (map string_bytes c.deref-2.result.now) _ (sym c.lead_back.ensures ∙ c.if-lead_back.true) (ap (map (λ other. other.now)) c.deref.ensures.value) (ap (map string_bytes) c.deref-2.ensures.value))
    _ c.in_ok-refused_includes.ensures

pub found_at-returns-in-Ok-each_include-clause-found : goal.found_at-returns-in-Ok-each_include-clause-found
found_at-returns-in-Ok-each_include-clause-found g t c =
    includes_good (g.T.Tree.contents c.args.tree.now) (has c.args.listed.now) c.args.left (map (λ other. other.now) c.args.chain.now) (files_view c.args.read.now) c.args.file.now (g.T.Tree.tells c.args.tree.now) ⊥
    (content_view c.in-Ok.content) c.in-Ok.ensures.content (c.args.left - 1) (omega arith) (map (λ other. other.now) c.deref-3.result.now) (ap (map (λ other. other.now)) c.deref-3.ensures.value ∙ c.in_ok-longer.ensures)
    (leads false (map (λ other. other.now) c.deref.result.now) _ (map string_bytes c.deref-2.result.now) _ (sym c.lead_back.ensures ∙ c.if-lead_back.false) (ap (map (λ other. other.now)) (c.deref.ensures.value ∙ sym c.deref-3.ensures.value)) (ap (map string_bytes) c.deref-2.ensures.value))
    (files_view c.add.new.self) c.in_ok-add.ensures
    (g.T.Tree.contents c.read_file.new.tree) c.read_file.ensures.keeps.same_contents (map string_bytes c.deref-4.result.now) (ap (map string_bytes) c.deref-4.ensures.value)
    (g.T.Tree.tells c.read_file.new.tree) c.read_file.ensures.keeps.tells_alike.0
    (said_view c.in-Ok-each_include.under) (said_view c.in_ok-over-in-Ok-each_include.field-0) (files_view c.each_include.new.read) c.in-Ok-each_include.ensures.found c.in_ok-over-in-Ok-each_include.ensures

pub found_at-returns-clause-refused : goal.found_at-returns-clause-refused
found_at-returns-clause-refused g t c =
    includes_refused (g.T.Tree.contents c.args.tree.now) (has c.args.listed.now) c.args.left (map (λ other. other.now) c.args.chain.now) (files_view c.args.read.now) c.args.file.now (g.T.Tree.tells c.args.tree.now) (Rose (g.T.Tree.faults c.args.tree.now) (g.T.Tree.faults c.each_include.new.tree))
    (content_view c.in-Ok.content) c.in-Ok.ensures.content (c.args.left - 1) (omega arith) (map (λ other. other.now) c.deref-3.result.now) (ap (map (λ other. other.now)) c.deref-3.ensures.value ∙ c.in_ok-longer.ensures)
    (leads false (map (λ other. other.now) c.deref.result.now) _ (map string_bytes c.deref-2.result.now) _ (sym c.lead_back.ensures ∙ c.if-lead_back.false) (ap (map (λ other. other.now)) (c.deref.ensures.value ∙ sym c.deref-3.ensures.value)) (ap (map string_bytes) c.deref-2.ensures.value))
    (files_view c.add.new.self) c.in_ok-add.ensures
    (g.T.Tree.contents c.read_file.new.tree) c.read_file.ensures.keeps.same_contents (map string_bytes c.deref-4.result.now) (ap (map string_bytes) c.deref-4.ensures.value)
    (g.T.Tree.tells c.read_file.new.tree) (Rose (g.T.Tree.faults c.read_file.new.tree) (g.T.Tree.faults c.each_include.new.tree)) c.read_file.ensures.keeps.tells_alike.0
    (rose_behind g.T.Tree.tells g.T.Tree.contents g.T.Tree.faults g.T.Tree.listings g.T.Tree.never_fails c.args.tree.now c.read_file.new.tree c.each_include.new.tree c.read_file.ensures.keeps)
    c.in-Err-each_include.stop c.in-Err-each_include.ensures.refused

-- ---- how many files are read

pub each_include-returns-in_err-said-in-Ok-clause-read_at_most_once : goal.each_include-returns-in_err-said-in-Ok-clause-read_at_most_once
each_include-returns-in_err-said-in-Ok-clause-read_at_most_once g t c =
    let not_in = among false c.has.result (files_view c.loop-include.read) c.as_str.result.now (string_bytes c.include-item.result) c.as_str-then-not-has.result.now c.has.ensures c.as_str.ensures.value c.as_str-then-not-has.ensures.value c.if-not-has.true in
    λ told neon is.
    within_next (g.T.Tree.contents c.args.tree.now) (has c.args.listed.now) c.args.left (map (λ other. other.now) c.args.chain.now) (files_view c.args.read.now) (files_view c.loop-include.read)
    (map string_bytes c.args.includes.now) (map string_bytes (drop c.loop-include.include-index c.args.includes.now)) (map string_bytes (drop (c.loop-include.include-index + 1) c.args.includes.now)) c.as_str-then-not-has.result.now neon
    (c.loop-include.invariant.reads told neon is) (next_item c.args.includes.now c.loop-include.include-index c.include-item.result c.as_str-then-not-has.result.now (omega arith) c.include-item.is c.as_str-then-not-has.ensures.value) not_in
    (g.T.Tree.contents c.loop-include.tree) c.loop-include.invariant.keeps.same_contents (g.T.Tree.reads c.args.tree.now) (g.T.Tree.reads c.loop-include.tree) (g.T.Tree.reads c.found_at.new.tree)
    c.loop-include.invariant.once (c.found_at.ensures.read_at_most_once (c.loop-include.invariant.keeps.tells_alike.0 told) neon is)

pub each_include-returns-in-Err-clause-read_at_most_once : goal.each_include-returns-in-Err-clause-read_at_most_once
each_include-returns-in-Err-clause-read_at_most_once g t c =
    let not_in = among false c.has.result (files_view c.loop-include.read) c.as_str.result.now (string_bytes c.include-item.result) c.as_str-then-not-has.result.now c.has.ensures c.as_str.ensures.value c.as_str-then-not-has.ensures.value c.if-not-has.true in
    λ told neon is.
    within_next (g.T.Tree.contents c.args.tree.now) (has c.args.listed.now) c.args.left (map (λ other. other.now) c.args.chain.now) (files_view c.args.read.now) (files_view c.loop-include.read)
    (map string_bytes c.args.includes.now) (map string_bytes (drop c.loop-include.include-index c.args.includes.now)) (map string_bytes (drop (c.loop-include.include-index + 1) c.args.includes.now)) c.as_str-then-not-has.result.now neon
    (c.loop-include.invariant.reads told neon is) (next_item c.args.includes.now c.loop-include.include-index c.include-item.result c.as_str-then-not-has.result.now (omega arith) c.include-item.is c.as_str-then-not-has.ensures.value) not_in
    (g.T.Tree.contents c.loop-include.tree) c.loop-include.invariant.keeps.same_contents (g.T.Tree.reads c.args.tree.now) (g.T.Tree.reads c.loop-include.tree) (g.T.Tree.reads c.found_at.new.tree)
    c.loop-include.invariant.once (c.found_at.ensures.read_at_most_once (c.loop-include.invariant.keeps.tells_alike.0 told) neon is)

pub each_include-returns-clause-read_at_most_once : goal.each_include-returns-clause-read_at_most_once
each_include-returns-clause-read_at_most_once g t c =
    λ told neon is.
    all_included (g.T.Tree.contents c.args.tree.now) (has c.args.listed.now) c.args.left (map (λ other. other.now) c.args.chain.now) (files_view c.args.read.now) (files_view c.loop-include.read)
    (map string_bytes c.args.includes.now) (map string_bytes (drop c.loop-include.include-index c.args.includes.now)) [] [] neon (c.loop-include.invariant.reads told neon is)
    (no_item c.args.includes.now c.loop-include.include-index (omega arith)) (g.T.Tree.reads c.args.tree.now) (g.T.Tree.reads c.loop-include.tree) c.loop-include.invariant.once

pub found_at-returns-in-Err-clause-read_at_most_once : goal.found_at-returns-in-Err-clause-read_at_most_once
found_at-returns-in-Err-clause-read_at_most_once g t c =
    λ told neon is.
    file_within (g.T.Tree.contents c.args.tree.now) (has c.args.listed.now) c.args.left (map (λ other. other.now) c.args.chain.now) (files_view c.args.read.now) c.args.file.now neon
    (g.T.Tree.reads c.args.tree.now) (g.T.Tree.reads c.read_file.new.tree) c.read_file.ensures.read_at_most_once

pub found_at-returns-in_err-add-clause-read_at_most_once : goal.found_at-returns-in_err-add-clause-read_at_most_once
found_at-returns-in_err-add-clause-read_at_most_once g t c =
    λ told neon is.
    file_within (g.T.Tree.contents c.args.tree.now) (has c.args.listed.now) c.args.left (map (λ other. other.now) c.args.chain.now) (files_view c.args.read.now) c.args.file.now neon
    (g.T.Tree.reads c.args.tree.now) (g.T.Tree.reads c.read_file.new.tree) c.read_file.ensures.read_at_most_once

pub found_at-returns-in_err-longer-clause-read_at_most_once : goal.found_at-returns-in_err-longer-clause-read_at_most_once
found_at-returns-in_err-longer-clause-read_at_most_once g t c =
    λ told neon is.
    file_within (g.T.Tree.contents c.args.tree.now) (has c.args.listed.now) c.args.left (map (λ other. other.now) c.args.chain.now) (files_view c.args.read.now) c.args.file.now neon
    (g.T.Tree.reads c.args.tree.now) (g.T.Tree.reads c.read_file.new.tree) c.read_file.ensures.read_at_most_once

pub found_at-returns-in_err-refused_includes-clause-read_at_most_once : goal.found_at-returns-in_err-refused_includes-clause-read_at_most_once
found_at-returns-in_err-refused_includes-clause-read_at_most_once g t c =
    λ told neon is.
    file_within (g.T.Tree.contents c.args.tree.now) (has c.args.listed.now) c.args.left (map (λ other. other.now) c.args.chain.now) (files_view c.args.read.now) c.args.file.now neon
    (g.T.Tree.reads c.args.tree.now) (g.T.Tree.reads c.read_file.new.tree) c.read_file.ensures.read_at_most_once

pub found_at-returns-then-lead_back-clause-read_at_most_once : goal.found_at-returns-then-lead_back-clause-read_at_most_once
found_at-returns-then-lead_back-clause-read_at_most_once g t c =
    λ told neon is.
    file_within (g.T.Tree.contents c.args.tree.now) (has c.args.listed.now) c.args.left (map (λ other. other.now) c.args.chain.now) (files_view c.args.read.now) c.args.file.now neon
    (g.T.Tree.reads c.args.tree.now) (g.T.Tree.reads c.read_file.new.tree) c.read_file.ensures.read_at_most_once

pub found_at-returns-in_err-over-in-Ok-each_include-clause-read_at_most_once : goal.found_at-returns-in_err-over-in-Ok-each_include-clause-read_at_most_once
found_at-returns-in_err-over-in-Ok-each_include-clause-read_at_most_once g t c =
    λ told neon is.
    behind_file (g.T.Tree.contents c.args.tree.now) (has c.args.listed.now) c.args.left (c.args.left - 1) (map (λ other. other.now) c.args.chain.now) (files_view c.args.read.now) (map (λ other. other.now) c.deref-3.result.now) c.args.file.now neon
    (content_view c.in-Ok.content) (c.in-Ok.ensures.content told neon is) (omega arith) (ap (map (λ other. other.now)) c.deref-3.ensures.value ∙ c.in_ok-longer.ensures)
    (leads false (map (λ other. other.now) c.deref.result.now) _ (map string_bytes c.deref-2.result.now) _ (sym c.lead_back.ensures ∙ c.if-lead_back.false) (ap (map (λ other. other.now)) (c.deref.ensures.value ∙ sym c.deref-3.ensures.value)) (ap (map string_bytes) c.deref-2.ensures.value))
    (g.T.Tree.contents c.read_file.new.tree) c.read_file.ensures.keeps.same_contents (files_view c.add.new.self) (map string_bytes c.deref-4.result.now) c.in_ok-add.ensures (ap (map string_bytes) c.deref-4.ensures.value)
    (g.T.Tree.reads c.args.tree.now) (g.T.Tree.reads c.read_file.new.tree) (g.T.Tree.reads c.each_include.new.tree) c.in-Ok.ensures.read_once (c.each_include.ensures.read_at_most_once (c.read_file.ensures.keeps.tells_alike.0 told) neon is)

pub found_at-returns-in-Ok-each_include-clause-read_at_most_once : goal.found_at-returns-in-Ok-each_include-clause-read_at_most_once
found_at-returns-in-Ok-each_include-clause-read_at_most_once g t c =
    λ told neon is.
    behind_file (g.T.Tree.contents c.args.tree.now) (has c.args.listed.now) c.args.left (c.args.left - 1) (map (λ other. other.now) c.args.chain.now) (files_view c.args.read.now) (map (λ other. other.now) c.deref-3.result.now) c.args.file.now neon
    (content_view c.in-Ok.content) (c.in-Ok.ensures.content told neon is) (omega arith) (ap (map (λ other. other.now)) c.deref-3.ensures.value ∙ c.in_ok-longer.ensures)
    (leads false (map (λ other. other.now) c.deref.result.now) _ (map string_bytes c.deref-2.result.now) _ (sym c.lead_back.ensures ∙ c.if-lead_back.false) (ap (map (λ other. other.now)) (c.deref.ensures.value ∙ sym c.deref-3.ensures.value)) (ap (map string_bytes) c.deref-2.ensures.value))
    (g.T.Tree.contents c.read_file.new.tree) c.read_file.ensures.keeps.same_contents (files_view c.add.new.self) (map string_bytes c.deref-4.result.now) c.in_ok-add.ensures (ap (map string_bytes) c.deref-4.ensures.value)
    (g.T.Tree.reads c.args.tree.now) (g.T.Tree.reads c.read_file.new.tree) (g.T.Tree.reads c.each_include.new.tree) c.in-Ok.ensures.read_once (c.each_include.ensures.read_at_most_once (c.read_file.ensures.keeps.tells_alike.0 told) neon is)

pub found_at-returns-clause-read_at_most_once : goal.found_at-returns-clause-read_at_most_once
found_at-returns-clause-read_at_most_once g t c =
    λ told neon is.
    behind_file (g.T.Tree.contents c.args.tree.now) (has c.args.listed.now) c.args.left (c.args.left - 1) (map (λ other. other.now) c.args.chain.now) (files_view c.args.read.now) (map (λ other. other.now) c.deref-3.result.now) c.args.file.now neon
    (content_view c.in-Ok.content) (c.in-Ok.ensures.content told neon is) (omega arith) (ap (map (λ other. other.now)) c.deref-3.ensures.value ∙ c.in_ok-longer.ensures)
    (leads false (map (λ other. other.now) c.deref.result.now) _ (map string_bytes c.deref-2.result.now) _ (sym c.lead_back.ensures ∙ c.if-lead_back.false) (ap (map (λ other. other.now)) (c.deref.ensures.value ∙ sym c.deref-3.ensures.value)) (ap (map string_bytes) c.deref-2.ensures.value))
    (g.T.Tree.contents c.read_file.new.tree) c.read_file.ensures.keeps.same_contents (files_view c.add.new.self) (map string_bytes c.deref-4.result.now) c.in_ok-add.ensures (ap (map string_bytes) c.deref-4.ensures.value)
    (g.T.Tree.reads c.args.tree.now) (g.T.Tree.reads c.read_file.new.tree) (g.T.Tree.reads c.each_include.new.tree) c.in-Ok.ensures.read_once (c.each_include.ensures.read_at_most_once (c.read_file.ensures.keeps.tells_alike.0 told) neon is)

pub found_at-returns-in-Ok-each_include-clause-read_once : goal.found_at-returns-in-Ok-each_include-clause-read_once
found_at-returns-in-Ok-each_include-clause-read_once g t c =
    added_then (length (files_view c.args.read.now)) (length (files_view c.add.new.self)) (length (files_view c.each_include.new.read)) (g.T.Tree.reads c.args.tree.now) (g.T.Tree.reads c.read_file.new.tree) (g.T.Tree.reads c.each_include.new.tree)
    (one_read (files_view c.args.read.now) (files_view c.add.new.self) c.args.file.now (g.T.Tree.reads c.args.tree.now) (g.T.Tree.reads c.read_file.new.tree) c.in_ok-add.ensures c.in-Ok.ensures.read_once)
    c.in-Ok-each_include.ensures.read_once

pub found_at-returns-in-Ok-each_include-clause-keeps : goal.found_at-returns-in-Ok-each_include-clause-keeps
found_at-returns-in-Ok-each_include-clause-keeps g t c =
    keeps_then g.T.Tree.tells g.T.Tree.contents g.T.Tree.faults g.T.Tree.listings g.T.Tree.never_fails c.args.tree.now c.read_file.new.tree c.each_include.new.tree c.read_file.ensures.keeps c.each_include.ensures.keeps
