use Rattle.pv_site.proofs.site.Site.step.Goals as goal

-- What is for the site is so when it is lent.
pub take-requires-clause-input : goal.take-requires-clause-input
take-requires-clause-input g c = c.lent.ensures.fits c.args.self.now.me c.args.self.now.catalog c.requires.input
