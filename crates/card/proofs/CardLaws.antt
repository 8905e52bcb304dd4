-- The three laws of a card, at every state that a list of calls leads to.
-- Assumes nothing.
use Rattle.std.proofs.Common.{◌≡◌, ℕ, ◌≤◌, List, [], ◌∷◌, ◌++◌, sym, ap, ◌∙◌, subst}
use Rattle.rules.specs.Rules.{Meaning, ShiftLaw}
use Rattle.stores.specs.Store.{largest, Sound}
use Rattle.stores.specs.declared.store.Store.{Ghosts}
use Rattle.strips.specs.Laws.{Bounded}
use Rattle.card_model.specs.Calls.{Call}
use Rattle.card_model.specs.State.{CardState}
use Rattle.card_model.specs.Runs.{state_after}
use Rattle.card_model.proofs.Assembly.{three_laws}
use Rattle.card_model.proofs.Waiting.{readout_laws}
use Rattle.card.specs.declared.inner.Core.{Core}
use Rattle.card.specs.Abstraction.{state_of, state_in}
use Rattle.card.specs.Held.{Held}
use Rattle.card.specs.CardLaws.{LawsAfter, LawsAfterList, LawsOf}

-- the capacity of the card that a list of calls leads to is the one that it was made with
same_room : (meaning : Meaning) (core : Core) (lists : List (List ℕ)) (room made : ℕ) (calls : List Call)
    → state_after meaning made calls ≡ state_of core lists room → room ≡ made
unfolding state_of
same_room meaning core lists room made calls e =
    sym (ap (λ (s : CardState). s.readout.room) e) ∙ (readout_laws.in_order meaning made calls).capacity

pub laws_after_list : (meaning : Meaning) → Bounded meaning → (core : Core) (lists : List (List ℕ)) (room : ℕ) → room ≤ largest
    → (more : List Call) → LawsAfterList meaning (state_of core lists room) more
laws_after_list meaning bounded core lists room small more made calls e =
    three_laws meaning made (subst (λ (r : ℕ). r ≤ largest) (same_room meaning core lists room made calls e) small) bounded (more ++ calls)

pub laws_after : (meaning : Meaning) → Bounded meaning → (core : Core) (lists : List (List ℕ)) (room : ℕ) → room ≤ largest
    → (call : Call) → LawsAfter meaning (state_of core lists room) call
laws_after meaning bounded core lists room small call = laws_after_list meaning bounded core lists room small (call ∷ [])

-- at a card over a rule and a store, as its callers see it
module _ {R S : Type 0} {meaning : R → Meaning} (bounded : (rule : R) → Bounded (meaning rule))
    (s : Ghosts S) (sound : (store : S) → Sound (s.room store) (s.lists store))
    {held : Held R} {rule : R} (core : Core) (store : S) (is : record { rule = rule; state = state_in s core store } ≡ held) where
  pub keeps_laws_list : (more : List Call) → LawsAfterList (meaning held.rule) held.state more
  keeps_laws_list more =
      subst (λ (h : Held R). LawsAfterList (meaning h.rule) h.state more) is
      (laws_after_list (meaning rule) (bounded rule) core (s.lists store) (s.room store) (sound store).limit more)

  pub keeps_laws : (call : Call) → LawsAfter (meaning held.rule) held.state call
  keeps_laws call = keeps_laws_list (call ∷ [])

pub laws_of : (meaning : Meaning) → Bounded meaning → ShiftLaw meaning → (room : ℕ) → room ≤ largest
    → (calls : List Call) → LawsOf meaning room calls
laws_of meaning bounded shifts room small calls =
    let all = three_laws meaning room small bounded calls in
    record {
      twins_answer_alike = all.twins_answer_alike shifts;
      bytes_balance = all.bytes_balance;
      no_early_loss = all.no_early_loss;
    }
