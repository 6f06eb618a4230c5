use Rattle.gate_engine.specs.Kept.{IsSentOf}
use Rattle.gate_engine.proofs.Justified.{legal_justifies, justifies_on, still_justifies, still_headline, session_headline, started_headline, asked_headline, left_still, some_bytes}
use Rattle.gate_engine.proofs.law.what_a_run_keeps.Goals as goal

pub returns-clause-still : goal.returns-clause-still
returns-clause-still g c = λ held old new sound stands stays.
    still_justifies c.one_entry_more.ensures.legal c.what_is_sent_is_recorded.ensures.more held (g.P.Plant.stops old) (g.P.Plant.stops new) sound stands stays

pub returns-clause-legal : goal.returns-clause-legal
returns-clause-legal g c = λ held after old new keeps.
    legal_justifies (IsSentOf held.history (g.P.Plant.stops old)) held after (g.P.Plant.stops old) (g.P.Plant.stops new) keeps

pub returns-clause-on : goal.returns-clause-on
returns-clause-on g c = λ held mid old then new extends carries first second.
    justifies_on (IsSentOf held.history (g.P.Plant.stops old)) (IsSentOf mid.history (g.P.Plant.stops then)) carries held.history mid.history extends
    (g.P.Plant.stops old) (g.P.Plant.stops then) (g.P.Plant.stops new) (c.runs_join.ensures.joins old then new first.joins second.joins) first second

pub returns-clause-kept : goal.returns-clause-kept
returns-clause-kept g c = λ before old new sound kept stays.
    still_headline c.one_entry_more.ensures.legal c.what_is_sent_is_recorded.ensures.more before (g.P.Plant.stops old) (g.P.Plant.stops new) sound kept stays

pub returns-clause-begun : goal.returns-clause-begun
returns-clause-begun g c = λ before found old then new sound kept stays settles recorded since.
    session_headline c.one_entry_more.ensures.legal c.what_is_sent_is_recorded.ensures.more before found (g.P.Plant.stops old) (g.P.Plant.stops then) (g.P.Plant.stops new)
    sound kept stays settles recorded (c.runs_join.ensures.joins old then new stays.joins since.joins) since

pub returns-clause-started : goal.returns-clause-started
returns-clause-started g c = λ before found after old then new sound kept stays settles carries sound_after since.
    started_headline c.one_entry_more.ensures.legal c.what_is_sent_is_recorded.ensures.more c.fronts_are_legal.ensures before found after
    (g.P.Plant.stops old) (g.P.Plant.stops then) (g.P.Plant.stops new) sound kept stays settles carries sound_after since
    (c.runs_join.ensures.joins old then new stays.joins since.joins)

pub returns-clause-asked : goal.returns-clause-asked
returns-clause-asked g c = λ before found old then new extends recorded one two.
    asked_headline before found (g.P.Plant.stops old) (g.P.Plant.stops then) (g.P.Plant.stops new) extends recorded
    (c.runs_join.ensures.joins old then new one.joins two.joins) one two

pub returns-clause-left : goal.returns-clause-left
returns-clause-left g c = λ before old new sound kept stays. left_still before (g.P.Plant.stops old) (g.P.Plant.stops new) sound kept stays

pub returns-clause-some : goal.returns-clause-some
returns-clause-some g c = λ before plant bytes kept is.
    some_bytes c.one_group_more.ensures.size before (g.P.Plant.stops plant) bytes kept (g.met.P.Plant.reads plant bytes is)
