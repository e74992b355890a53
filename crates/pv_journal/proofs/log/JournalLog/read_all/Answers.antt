-- What is read is what the disk holds, where that is known, and what the reads gave.
use Rattle.std.proofs.Common.{rules, ◌≡◌, ℕ, Ok, Err, refl, sym, ◌∙◌, false, subst}
use Rattle.pv_disk_model.specs.Calls.{none}
use Rattle.pv_law_journal.proofs.ContentsLemmas.{contents_of-is}
use Rattle.pv_law_journal.proofs.SizeLemmas.{known_bytes}
use Rattle.pv_disk.specs.declared.disk_error.LookError.TheVariants.{NotOurs}
use Rattle.pv_format.specs.Journal.{IsNotOurs}
use Rattle.pv_law_calls.specs.Reading.{Gave}
use Rattle.pv_journal.proofs.GivenLemmas.{answers_of_reads}
use Rattle.pv_journal.proofs.LogLemmas.{silent}
use Rattle.pv_journal.proofs.log.JournalLog.read_all.Goals as goal

pub returns-then-self-clause-goes : goal.returns-then-self-clause-goes
returns-then-self-clause-goes g c = (record { length = refl; limit = refl; down = λ ok. refl }, none)

pub returns-in-Ok-clause-contents : goal.returns-in-Ok-clause-contents
returns-in-Ok-clause-contents g c held is =
    let known = known_bytes (g.D.Disk.model.content c.args.self.now.disk) held is in
    let journal = c.in-Ok.ensures.found known.0 known.1 in
    let same = sym (contents_of-is _ known.0 journal) ∙ known.2 in
    cc

pub returns-in-Err-NotOurs-clause-effect : goal.returns-in-Err-NotOurs-clause-effect
returns-in-Err-NotOurs-clause-effect g c =
    let up : c.args.self.now.down ≡ false = search rules in (
      search rules,
      search rules,
      silent (g.D.Disk.model.content c.args.self.now.disk) c.in-Err-NotOurs.place
          (λ bytes known. let rest = c.requires.at_rest up bytes known in (rest.0, rest.1)) (λ bytes known. c.read_contents.ensures.not_ours c.in-Err-NotOurs.place (search rules) bytes known),
    )

pub returns-in-Ok-clause-reads : goal.returns-in-Ok-clause-reads
returns-in-Ok-clause-reads g c =
    answers_of_reads g.D.Disk.model c.args.self.now.disk c.read_contents.new.disk (Ok c.in-Ok.all) c.in-Ok.ensures.gave (λ place is. absurd (let no : ⊥ = cc in no))

pub returns-in-Err-NotOurs-clause-reads : goal.returns-in-Err-NotOurs-clause-reads
returns-in-Err-NotOurs-clause-reads g c =
    let old = c.args.self.now.disk in
    let new = c.read_contents.new.disk in
    let place = c.in-Err-NotOurs.place in
    let gave = c.read_contents.ensures.gave_none place (search rules) in
    answers_of_reads g.D.Disk.model old new (Err (NotOurs place)) tt
    (λ other is. let same : place ≡ other = cc in subst (λ (at : ℕ). Gave g.D.Disk.model old new (λ read. IsNotOurs read at)) same gave)
