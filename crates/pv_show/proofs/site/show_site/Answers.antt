-- A disk that was handed out is only read, and is back.
use Rattle.pv_show.specs.Bays.{none, not_handed_out, one_more}
use Rattle.pv_show.proofs.ShowLemmas.{read-by, site-shown}
use Rattle.pv_show.proofs.site.show_site.Goals as goal

pub returns-in-Err-Failed-clause-reads : goal.returns-in-Err-Failed-clause-reads
returns-in-Err-Failed-clause-reads g c = λ sites within. not_handed_out c.args.bay.now c.disk.new.self c.args.site.0 c.in-Err-Failed.field-0 within none c.in-Err-Failed.ensures.effect

pub returns-in-Err-NoMemory-clause-reads : goal.returns-in-Err-NoMemory-clause-reads
returns-in-Err-NoMemory-clause-reads g c = λ sites within. not_handed_out c.args.bay.now c.disk.new.self c.args.site.0 c.in-Err-NoMemory.field-0 within none c.in-Err-NoMemory.ensures.effect

pub returns-in_err-push_look-clause-reads : goal.returns-in_err-push_look-clause-reads
returns-in_err-push_look-clause-reads g c = λ sites within.
    let read = read-by g.B.Bay.model g.B.D.Disk.model c.args.bay.now c.disk.new.self c.back.new.self c.args.site.0 c.in-Ok.disk c.look-looked.new.disk c.look-looked.result
    c.in-Ok.ensures.effect c.look-looked.ensures.effect c.back.ensures.effect in
    one_more c.args.bay.now c.back.new.self c.args.site.0 c.in-Ok.disk c.look-looked.new.disk within none read

pub returns-clause-text : goal.returns-clause-text
returns-clause-text g c =
    let read = read-by g.B.Bay.model g.B.D.Disk.model c.args.bay.now c.disk.new.self c.back.new.self c.args.site.0 c.in-Ok.disk c.look-looked.new.disk c.look-looked.result
    c.in-Ok.ensures.effect c.look-looked.ensures.effect c.back.ensures.effect in
    let told = c.in_ok-push_look.ensures in (
      told.0,
      told.1,
      site-shown g.B.Bay.model g.B.D.Disk.model c.args.catalog.now c.args.bay.now c.back.new.self c.args.site.0 c.in-Ok.disk c.look-looked.new.disk read c.look-looked.result told.0
          c.look-looked.ensures.effect c.look-looked.ensures.answer told.2,
    )

pub returns-clause-reads : goal.returns-clause-reads
returns-clause-reads g c = λ sites within.
    let read = read-by g.B.Bay.model g.B.D.Disk.model c.args.bay.now c.disk.new.self c.back.new.self c.args.site.0 c.in-Ok.disk c.look-looked.new.disk c.look-looked.result
    c.in-Ok.ensures.effect c.look-looked.ensures.effect c.back.ensures.effect in
    one_more c.args.bay.now c.back.new.self c.args.site.0 c.in-Ok.disk c.look-looked.new.disk within none read
