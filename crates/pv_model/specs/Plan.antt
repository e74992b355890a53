-- The plan of a program as a function of the catalog's items: what it wants of each site.
use Rattle.std.specs.Prelude.{ℕ, ◌+◌, ◌&&◌, ◌==◌, nat_lt, List, [], ◌∷◌, map, if◌then◌else◌}
use Rattle.pv_base.specs.Catalog.{Item}
use Rattle.pv_base.specs.Want.{Want}
use Rattle.pv_model.specs.Check.{Part, names_item}
use Rattle.pv_model.specs.ProgramLaws.{assigns}
use Rattle.pv_model.specs.Syntax.{Program}

-- the program's want of an item, exclusive where it assigns the item
abbrev pub want_of : Program → ℕ → Want
want_of program item = record { item = item; exclusive = assigns program item }

-- the program's wants of the site's items, among items that are numbered from here on
abbrev pub wants_from : Program → ℕ → ℕ → List Item → List Want
wants_from program site item [] = []
wants_from program site item (declared ∷ items) =
    if declared.site == site && names_item program item
    then want_of program item ∷ wants_from program site (item + 1) items
    else wants_from program site (item + 1) items

-- what the program wants of the site: the site's items that it names, ascending
abbrev pub wants_of : Program → List Item → ℕ → List Want
wants_of program items site = wants_from program site 0 items

-- the ascending list with one more site, unless it has the site
abbrev pub with_participant : ℕ → List ℕ → List ℕ
with_participant site [] = site ∷ []
with_participant site (first ∷ rest) =
    if site == first then first ∷ rest else
    (if nat_lt site first then site ∷ (first ∷ rest) else first ∷ with_participant site rest)

-- the sites of the items that the program names, among items that are numbered from here on
abbrev pub sites_from : Program → ℕ → List Item → List ℕ
sites_from program item [] = []
sites_from program item (declared ∷ items) =
    if names_item program item
    then with_participant declared.site (sites_from program (item + 1) items)
    else sites_from program (item + 1) items

-- the participants: the sites that own an item of the program, ascending
abbrev pub participants_of : Program → List Item → List ℕ
participants_of program items = sites_from program 0 items

-- what the program wants of the site, as a part of its plan
abbrev pub part_of : Program → List Item → ℕ → Part
part_of program items site = record { site = site; wants = wants_of program items site }

-- the parts of a program, one of each participant
unfoldable pub plan_of : Program → List Item → List Part
plan_of program items = map (part_of program items) (participants_of program items)
