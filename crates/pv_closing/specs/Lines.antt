-- What a history says of what a client wants.
use Rattle.std.specs.Prelude.{◌≡◌, ℕ, ◌<◌, ◌≤◌, Bool, true, false, Some, None, List, [], ◌∷◌, get_or, length, take, ⊤}
use Rattle.pv_law_histories.specs.Peeks.{reading_after}
use Rattle.pv_protocol.specs.Report.{Reading, cases, locked, down}
use Rattle.pv_script.specs.LineView.{line_of}
use Rattle.pv_script.specs.declared.live.Wish.{Wish}
use Rattle.pv_script.specs.declared.live.Wish.TheVariants.{Do, Peek}
use Rattle.pv_shelf.specs.declared.face.Face.{Face}
use Rattle.pv_shelf.specs.declared.face.Face.TheVariants as face
use Rattle.pv_shelf.specs.declared.peek.Peek as look
use Rattle.pv_site.specs.SiteState.{setup_of}
use Rattle.pv_mail.specs.declared.asked.Asker.{Asker}
use Rattle.pv_told.specs.Along.{line_by}
use Rattle.pv_told.specs.declared.line.ClientLine.{ClientLine}
use Rattle.pv_told.specs.declared.line.ClientWhat.{ClientWhat}
use Rattle.pv_told.specs.declared.line.ClientWhat.TheVariants as what
use Rattle.pv_cell.specs.Box.{IsWorn}
use Rattle.pv_cell.specs.declared.site_box.SiteBox.{SiteBox}
use Rattle.pv_closing.specs.Boxes.{history_in}

-- What a client hears of a request of its site, by the site's box: what the history says; or, where it says nothing, that the box is worn, where it is, and else that
-- there was no memory.
abbrev pub IsHeard : {W : Type 0} → SiteBox W → Asker → ClientWhat → Type 0
IsHeard box asker (what.Line line) = line_by box.site.me asker (history_in box) ≡ Some (line_of line)
IsHeard box asker (what.Peek peek) = ⊥
IsHeard box asker what.Worn = (line_by box.site.me asker (history_in box) ≡ None) × IsWorn box
IsHeard box asker what.NoMemory = (line_by box.site.me asker (history_in box) ≡ None) × (IsWorn box → ⊥)

-- what a face is read as, of an item of the site of this number
abbrev pub reading_of : ℕ → Face → Reading
reading_of me (face.Cases value) = cases value
reading_of me (face.Locked holder) = locked holder
reading_of me face.Down = down me

-- What a client hears of an item of its site that it looks at, by the site's box: how the site read it after so many entries of its history; or that there was no memory.
abbrev pub IsPeeked : {W : Type 0} → SiteBox W → (item : ℕ) → ClientWhat → Type 0
IsPeeked box item (what.Peek peek) =
    (peek.steps ≤ length (history_in box))
    × (reading_of box.site.me peek.face ≡ reading_after (setup_of box.site.catalog) box.site.me (history_in box) peek.steps item)
IsPeeked box item what.NoMemory = ⊤
IsPeeked box item other = ⊥

-- The line of what a client wants: of a request what the history says, and of an item how it was read, at the end of the history or earlier.
abbrev pub IsLineFor : {W : Type 0} → SiteBox W → Wish → (said told : ClientLine) → Type 0
IsLineFor box (Do request) said told = told ≡ said
IsLineFor box (Peek number item) said told = (told.request ≡ said.request) × IsPeeked box item.0 told.what

-- The line is of no look.
abbrev pub IsNoLook : ClientLine → Type 0
IsNoLook line = (peek : look.Peek) → line.what ≡ what.Peek peek → ⊥

-- Whether any of these is a request.
abbrev pub has_request : List Wish → Bool
has_request [] = false
has_request (Do request ∷ wishes) = true
has_request (Peek number item ∷ wishes) = has_request wishes

-- after how many entries of its site's history a client looks when the run is closed: where it has asked for nothing before, after none, and else after all
abbrev pub looked_after : {W : Type 0} → SiteBox W → Bool → ℕ
looked_after box false = 0
looked_after box true = length (history_in box)

-- In these lines of all that a client wants stands what it finds of the items among the first so many. Before they said nothing of looks.
pub record HaveLooked {W : Type 0} (box : SiteBox W) (wishes : List Wish) (said : List ClientLine) (at : ℕ) (lines : List ClientLine) : Type 0 where
  pub count : length lines ≡ length said
  pub told : (k : ℕ) (wish : Wish) (line : ClientLine) → k < at → IsLineFor box (get_or wishes k wish) (get_or said k line) (get_or lines k line)
  pub steps : (k : ℕ) (line : ClientLine) (peek : look.Peek) → k < at → (get_or lines k line).what ≡ what.Peek peek
      → peek.steps ≡ looked_after box (has_request (take k wishes))
  pub left : (k : ℕ) (line : ClientLine) → at ≤ k → get_or lines k line ≡ get_or said k line

-- It is no line of the history.
abbrev pub IsUntold : ClientWhat → Type 0
IsUntold (what.Line line) = ⊥
IsUntold other = ⊤
