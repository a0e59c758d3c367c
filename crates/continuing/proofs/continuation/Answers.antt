-- `continuing::continuation` meets its contract.
use Rattle.continuing.proofs.Continuing.{closed, miscounted, too_long, damaged, passed}
use mathlib.Core.Path.{◌∙◌}
use Rattle.continuing.proofs.continuation.Goals as goal

pub returns-in_default : goal.returns-in_default
returns-in_default c =
    c.strayed.ensures ∙ closed _ _ _ _ c.assembly_of.ensures c.in_default.is

pub returns-in_default-counts_of : goal.returns-in_default-counts_of
returns-in_default-counts_of c =
    c.abandoned.ensures
    ∙ miscounted _ _ _ _ c.assembly_of.ensures c.in-Some.is c.counts_of.ensures c.in_default-counts_of.is

pub returns-in_default-room_for : goal.returns-in_default-room_for
returns-in_default-room_for c =
    c.abandoned-in_default-room_for.ensures
    ∙ too_long _ _ _ _ c.assembly_of.ensures c.in-Some.is c.counts_of.ensures c.in-Expected.is
    c.room_for.ensures c.in_default-room_for.is

pub returns-in_default-check_of : goal.returns-in_default-check_of
returns-in_default-check_of c =
    c.abandoned-in_default-check_of.ensures
    ∙ damaged _ _ _ _ c.assembly_of.ensures c.in-Some.is c.counts_of.ensures c.in-Expected.is
    c.room_for.ensures c.in-Some-room_for.is c.judge.ensures c.check_of.ensures c.in_default-check_of.is

pub returns : goal.returns
returns c =
    c.taken.ensures
    ∙ passed _ _ _ _ c.assembly_of.ensures c.in-Some.is c.counts_of.ensures c.in-Expected.is
    c.room_for.ensures c.in-Some-room_for.is c.judge.ensures c.check_of.ensures c.in-Some-check_of.is
