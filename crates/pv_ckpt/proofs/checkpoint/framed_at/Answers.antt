use Rattle.std.proofs.Common.{arith, ◌++◌, ◌∙◌, ap, take, List, ℕ}
use Rattle.pv_format.specs.Journal.{framed}
use Rattle.pv_law_calls.proofs.LookLemmas.{looks_none}
use Rattle.pv_law_calls.proofs.RecordLemmas.{after_gate}
use Rattle.pv_law_journal.proofs.SizeLemmas.{length-framed}
use Rattle.pv_ckpt.proofs.PackLemmas.{count_told}
use Rattle.pv_ckpt.proofs.checkpoint.framed_at.Goals as goal

pub returns-then-end-place-lt5-clause-effect : goal.returns-then-end-place-lt5-clause-effect
returns-then-end-place-lt5-clause-effect g c = looks_none g.D.Disk.model c.args.disk.now

pub returns-clause-count : goal.returns-clause-count
returns-clause-count g c bytes content more is short stands =
    let number = c.in_ok-read_from.ensures.bytes bytes is ∙ ap (λ (l : List ℕ). take 4 l) (after_gate bytes (framed content ++ more) c.args.place 1 stands) in
    let told = count_told content more c.read_from.new.into c.number_in.result number c.number_in.ensures c.number_in.type_inv short in
    omega (arith, told, length-framed content)
