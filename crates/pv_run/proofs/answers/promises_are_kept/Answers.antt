-- Each promise is a law of every schedule's text.
use Rattle.pv_base.specs.declared.limits.TheConstants.{HELD_NAMES, READ_NAMES}
use Rattle.pv_site.specs.SiteState.{setup_of}
use Rattle.pv_run.proofs.answers.promises_are_kept.Goals as goal

pub returns : goal.returns
returns c = λ input schedule is. record {
  fits = c.committed_fit.ensures.run (setup_of schedule.catalog) schedule.events (c.schedules_are_well_formed.ensures input schedule is);
  reports = c.texts_agree.ensures.reports input schedule READ_NAMES HELD_NAMES is;
  shown = c.texts_agree.ensures.shown input schedule READ_NAMES HELD_NAMES is;
  readable = c.reports_show_each_readable.ensures.run (setup_of schedule.catalog) schedule.events (c.schedules_are_well_formed.ensures input schedule is);
  outcomes = c.texts_agree.ensures.outcomes input schedule READ_NAMES HELD_NAMES is;
  answers = c.texts_answer.ensures input schedule READ_NAMES HELD_NAMES is;
  refusals = c.texts_refuse_for_causes.ensures input schedule READ_NAMES HELD_NAMES is;
}
