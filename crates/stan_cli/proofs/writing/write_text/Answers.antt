use Rattle.std.proofs.Common.{◌-◌, ◌≤◌, length, take, drop, ◌∙◌, arith}
use Rattle.stan_cli.proofs.WritingLemmas.{length-rest, written-more}
use Rattle.stan_cli.proofs.writing.write_text.Goals as goal

pub loop-done-preserved : goal.loop-done-preserved
loop-done-preserved g c =
    let inv = c.loop-done.invariant in
    let step = c.in-Ok.ensures in
    let text = c.args.text.now in
    let done = c.loop-done.done in
    let within = step.within in
    let rest = length-rest text done in
    let room : length text ≤ g.K.Sink.room c.args.sink.now → length (take (length text - done) (drop done text)) ≤ g.K.Sink.room c.loop-done.sink = λ h. omega (arith, inv.room h, rest) in
    record {
      within = omega (arith, within, rest, inv.within);
      tells = λ h. step.tells (inv.tells h);
      written = λ h. written-more text done c.in-Ok.taken _ _ _ (inv.written h) (step.written (inv.tells h));
      faults = omega (arith, inv.faults, step.faults);
      room = λ h. omega (arith, step.rest (room h), inv.room h, within, rest, inv.within);
      steady = λ h. (step.room (room h)).1 ∙ inv.steady h;
    }
