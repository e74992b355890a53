use Rattle.std.proofs.Common.{List, ◌∷◌, map, sym, ap, ◌∙◌, subst}
use Rattle.pv_embed.specs.Held.{Held}
use Rattle.pv_embed.specs.Hosted.{HostedState}
use Rattle.pv_handle.specs.Tags.{GoesWith}
use Rattle.pv_handle.specs.declared.tags.Tag.{Tag}
use Rattle.pv_law_tags.proofs.TagLemmas.{asked-tagged, received-tagged, refused-tagged, same-hosted, submitted-tagged, taken-tagged, ticked-tagged, told-tagged, written-tagged}
use Rattle.pv_law_tags.proofs.tags_are_told_with_their_numbers.Goals as goal
use Rattle.pv_law_tags.specs.Tagging.{numbers_of}

pub returns-clause-received : goal.returns-clause-received
returns-clause-received c tagging old new bytes result is by = received-tagged tagging old new is bytes result by.0 by.2

pub returns-clause-ticked : goal.returns-clause-ticked
returns-clause-ticked c tagging old new result is by = ticked-tagged tagging old new is result by.0 by.2

pub returns-clause-asked : goal.returns-clause-asked
returns-clause-asked c tagging old new room out given is by = asked-tagged tagging old new is room out given by

pub returns-clause-wrote : goal.returns-clause-wrote
returns-clause-wrote c tagging old new place count result is by = written-tagged tagging old new is place count result by

pub returns-clause-told : goal.returns-clause-told
returns-clause-told c tagging old new txn result is by = told-tagged tagging old new is txn result by.0 by.2

pub returns-clause-refused : goal.returns-clause-refused
returns-clause-refused c tagging old new text query tag fault is by = refused-tagged tagging old new is text query tag fault by

pub returns-clause-submitted : goal.returns-clause-submitted
returns-clause-submitted c tagging old new text query tag done is by = submitted-tagged tagging old new is text query tag done by

pub returns-clause-opened : goal.returns-clause-opened
returns-clause-opened c config file me site by = record {
  kept = sym by.2;
  numbers = ap (map (λ (tag : Tag). tag.txn)) by.2 ∙ sym (ap numbers_of by.0.held);
}

pub returns-clause-taken : goal.returns-clause-taken
returns-clause-taken c tagging old new room out tag count to is by =
    let next = by.0.0 in
    let later = by.0.1 in
    let found = by.0.2 in
    let with_tag : GoesWith (next ∷ later) old.tags new.tags tag = subst (λ (l : List Held). GoesWith l old.tags new.tags tag) found.held by.2 in
    let told = taken-tagged tagging old new is next later tag found.held (ap (λ (h : HostedState). h.held) by.0.4) with_tag.0 with_tag.1 in
    (next, later, found, told.0, told.1)

pub returns-clause-untaken : goal.returns-clause-untaken
returns-clause-untaken c tagging old new room out tag is by = (by.2.0, same-hosted tagging old new is by.0.1 by.2.1)

pub returns-clause-too_small : goal.returns-clause-too_small
returns-clause-too_small c tagging old new room out tag needed is by = (by.2.0, same-hosted tagging old new is by.0.4 by.2.1)

pub returns-clause-unmade : goal.returns-clause-unmade
returns-clause-unmade c tagging old new room out tag fault is by = (by.2.0, same-hosted tagging old new is by.0.0 by.2.1)
