-- The lines of a client's requests.
use Rattle.std.specs.Prelude.{◌≡◌, ℕ, ◌<◌, Bool, true, false, Some, None, List, get_or, length}
use Rattle.pv_law_histories.specs.History.{Stamped}
use Rattle.pv_script.specs.LineView.{line_of}
use Rattle.pv_mail.specs.declared.asked.Asker.{Asker}
use Rattle.pv_told.specs.Along.{line_by}
use Rattle.pv_told.specs.declared.line.ClientLine.{ClientLine}
use Rattle.pv_told.specs.declared.line.ClientWhat.{ClientWhat}
use Rattle.pv_told.specs.declared.line.ClientWhat.TheVariants as what

-- What a client hears of a request of its site, by the site's history and whether its box is worn: what the history says; or, where it says nothing, that the box is
-- worn, where it is, and else that there was no memory.
abbrev pub IsSaid : (me : ℕ) → Bool → List Stamped → Asker → ClientWhat → Type 0
IsSaid me worn history asker (what.Line line) = line_by me asker history ≡ Some (line_of line)
IsSaid me worn history asker (what.Peek peek) = ⊥
IsSaid me worn history asker what.Worn = (line_by me asker history ≡ None) × (worn ≡ true)
IsSaid me worn history asker what.NoMemory = (line_by me asker history ≡ None) × (worn ≡ false)

-- Each of so many requests of the client has its line, in order.
abbrev pub AreLinesOf : (me : ℕ) → Bool → List Stamped → (client requests : ℕ) → List ClientLine → Type 0
AreLinesOf me worn history client requests lines =
    (length lines ≡ requests)
    × ((number : ℕ) (any : ClientLine) → number < requests
    → ((get_or lines number any).request ≡ number)
    × IsSaid me worn history (record { client = client; number = number }) (get_or lines number any).what)
