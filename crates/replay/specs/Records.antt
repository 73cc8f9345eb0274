-- What a run shows: its calls, its answers, the net positions after each call, and the lines at its end.
use Rattle.std.specs.Prelude.{◌≡◌, List, map, reverse, vec_items}
use Rattle.credit.specs.Net.{net_table}
use Rattle.calls.specs.declared.call.Call.{Call}
use Rattle.replay.specs.declared.entry.Entry.{Entry}
use Rattle.replay.specs.declared.replay.Journal.{Journal}
use Rattle.replay.specs.Runs.{Turn, latest, Run, calls}
use Rattle.replay.specs.Law.{Lawful}

abbrev pub entry_of : Turn → Entry
entry_of t = record { call = t.call; answer = t.answer; nets = net_table t.after.lines }

-- the journal is that of a run of a new ledger over these calls: its entries in the order of the calls, and its last lines
pub record Closed (cs : List Call) (j : Journal) : Type 0 where
  pub turns : List Turn
  pub run : Run turns
  pub over : calls turns ≡ reverse cs
  pub shown : map entry_of turns ≡ reverse (vec_items j.entries)
  pub left : (latest turns).lines ≡ vec_items j.lines

-- two such runs, for which the law holds
pub record ClosedTwice (cs : List Call) (j k : Journal) : Type 0 where
  pub one : Closed cs j
  pub other : Closed cs k
  pub lawful : Lawful one.turns other.turns
