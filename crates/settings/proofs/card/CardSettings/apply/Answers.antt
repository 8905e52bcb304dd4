-- Each setting changes just what it names.
-- Assumes nothing.
use Rattle.settings.specs.Settings.{applied, with_tick, with_pedestal, with_thresholds, with_rank}
use Rattle.settings.proofs.Applying.{changed}
use Rattle.settings.proofs.card.CardSettings.apply.Goals as goal

pub returns-in-Mode : goal.returns-in-Mode
unfolding applied
returns-in-Mode c = rw c.in-Mode.is

pub returns-in-Tick : goal.returns-in-Tick
unfolding applied
returns-in-Tick c =
    rw c.in-Tick.is
    (changed c.args.self.now c.in-Tick.fibre
    (with_tick c.in-Tick.enable c.in-Tick.complement c.in-Tick.threshold.value)
    c.index.result _ _ c.index.ensures c.set_tick.ensures)

pub returns-in-Pedestal : goal.returns-in-Pedestal
unfolding applied
returns-in-Pedestal c =
    rw c.in-Pedestal.is
    (changed c.args.self.now c.in-Pedestal.fibre
    (with_pedestal c.in-Pedestal.strip c.in-Pedestal.valid c.in-Pedestal.pedestal.value)
    c.index-in-Pedestal.result _ _ c.index-in-Pedestal.ensures c.set_pedestal.ensures)

pub returns-in-Thresholds : goal.returns-in-Thresholds
unfolding applied
returns-in-Thresholds c =
    rw c.in-Thresholds.is
    (changed c.args.self.now c.in-Thresholds.fibre
    (with_thresholds c.in-Thresholds.strip c.in-Thresholds.thresholds.thresh1 c.in-Thresholds.thresholds.thresh2)
    c.index-in-Thresholds.result _ _ c.index-in-Thresholds.ensures c.set_thresholds.ensures)

pub returns-in-Rank : goal.returns-in-Rank
unfolding applied
returns-in-Rank c =
    rw c.in-Rank.is
    (changed c.args.self.now c.in-Rank.fibre (with_rank c.in-Rank.side c.in-Rank.rank)
    c.index-in-Rank.result _ _ c.index-in-Rank.ensures c.set_rank.ensures)
