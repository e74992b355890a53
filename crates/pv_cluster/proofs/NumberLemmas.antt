-- Each thing that a client of a live script wants has the number of its place.
use Rattle.std.proofs.Common.{◌≡◌, ℕ, ◌<◌, length, get_or, map, sym, ap, ◌∙◌, subst}
use Rattle.std.proofs.lemmas.List.{get_or-map, length-map}
use Rattle.pv_law_schedules.proofs.WishLemmas.{wishes-numbered}
use Rattle.pv_law_schedules.specs.Wishes.{AreNumbered}
use Rattle.pv_model.specs.LiveScript as model
use Rattle.pv_model.specs.LiveScript.{number_of}
use Rattle.pv_opening.specs.Opening.{IsRead}
use Rattle.pv_script.specs.LiveView.{client_of, live_script_of, wish_of}
use Rattle.pv_script.specs.declared.live.Client.{Client}
use Rattle.pv_script.specs.declared.live.LiveScript.{LiveScript}
use Rattle.pv_script.specs.declared.live.Wish.{Wish}

-- Of a script that was read.
pub numbers-are : (script : LiveScript) → IsRead script → (k : ℕ) (any : Client) → k < length script.clients.items → (n : ℕ) (one : Wish)
    → n < length (get_or script.clients.items k any).requests.items → number_of (wish_of (get_or (get_or script.clients.items k any).requests.items n one)) ≡ n
numbers-are script read k any less n one within =
    let clients = script.clients.items in
    let wishes = (get_or clients k any).requests.items in
    let all = wishes-numbered read.0.0 (live_script_of script) read.0.1 k (client_of any) (subst (λ (m : ℕ). k < m) (sym (length-map clients client_of)) less) in
    let are : AreNumbered (map wish_of wishes) = subst (λ (c : model.Client). AreNumbered c.requests) (get_or-map client_of clients k any (client_of any) less) all in
    ap number_of (sym (get_or-map wish_of wishes n one (wish_of one) within))
    ∙ are n (wish_of one) (subst (λ (m : ℕ). n < m) (sym (length-map wishes wish_of)) within)
