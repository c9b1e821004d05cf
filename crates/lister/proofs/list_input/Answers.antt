-- What was read, and its text. Assumes nothing.
use Rattle.std.proofs.Common.{◌≤◌, arith, subst, take, length}
use Rattle.std.proofs.lemmas.List.{length-take-le}
use Rattle.std.proofs.lemmas.Result.{on_ok_weaker}
use Rattle.std.specs.Io.KnownBytes.{Appends}
use Rattle.lister.proofs.Written.{put-text}
use Rattle.lister.proofs.list_input.Goals as goal

pub returns : goal.returns
returns g c =
    let got = c.read_full-got.result in
    let input = c.read_full-got.new.buf in
    let few : length (take got input) ≤ 65537 =
    omega (arith, length-take-le got input c.read_full-got.ensures.within, c.read_full-got.auto.buf) in
    let text = put-text _ _ _ _ c.print-end.ensures.text in
    on_ok_weaker c.write_all.result (λ w. (
      take got input,
      few,
      c.read_full-got.ensures.bytes,
      subst (Appends (g.W.Write.contents c.args.to.now) (g.W.Write.contents c.write_all.new.self)) text w,
    )) c.write_all.ensures.bytes
