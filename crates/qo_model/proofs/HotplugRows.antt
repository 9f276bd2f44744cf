-- Worked rows of removals that are asked for: refused, let go, and all let go where the board is reset.
use Rattle.std.proofs.Common.{◌≡◌, refl, ℕ, Bool, true, false, List, [], ◌∷◌, map, replicate, codes, Option, Some, None}
use Rattle.qo_model.proofs.Common.{E33, E34, E35, E44, Board, DeviceEvent, Notice, add, cut, set, acted, clocks_below, period, depth_of, is_going, asked, asked_of, completed, refused, reset_whole, opening_board, attached, births, path_down_to, plug, drop_slot, finish, finalize, finalize_within, let_go, pin, unpin, plugged, post, pulse, released, types, apart_within, detach, unrealize, least}
use Rattle.qo_model.specs.Reset.{after_hold}

-- a notice, as whether it is of plugging in, and its birth; an event, as whether it is of the end, its id and its path
abbrev said : Notice → Bool × ℕ
said x = (x.plug, x.birth)

abbrev told : DeviceEvent → Bool × Option (List ℕ) × List ℕ
told e = (e.deleted, e.id, e.path)

-- a board with a bridge, and with one more
abbrev with_bridge : List ℕ → Board → Board
with_bridge id b = (plug b (record { driver = codes "slot-bridge"; id = Some id; bus = None; props = [] })).board

abbrev one : Board
one = with_bridge (codes "br") opening_board

abbrev asked_once : Board
asked_once = (asked one (codes "br")).board

abbrev both_asked : Board
both_asked = (asked (with_bridge (codes "c") asked_once) (codes "c")).board

-- the removal of a bridge is asked for
pending-of : (asked one (codes "br")).board.pending ≡ record { birth = 9; asked = 0 } ∷ []
unfolding types opening_board path_down_to attached drop_slot finish finalize finalize_within let_go pin unpin add set cut acted period clocks_below depth_of
    is_going plug plugged post after_hold released pulse least unrealize apart_within detach reset_whole
pending-of = refl

told-of : map said (asked one (codes "br")).board.notices ≡ (true, 9) ∷ (false, 9) ∷ []
unfolding types opening_board path_down_to attached drop_slot finish finalize finalize_within let_go pin unpin add set cut acted period clocks_below depth_of
    is_going plug plugged post after_hold released pulse least unrealize apart_within detach reset_whole
told-of = refl

by-path : (asked one (codes "/machine/peripheral/br")).board.pending ≡ record { birth = 9; asked = 0 } ∷ []
unfolding types opening_board path_down_to attached drop_slot finish finalize finalize_within let_go pin unpin add set cut acted period clocks_below depth_of
    is_going plug plugged post after_hold released pulse least unrealize apart_within detach reset_whole
by-path = refl

-- what is no device, asked for again, with no room for a notice, and out of the tree
refused-codes : map (λ id. (asked one id).refusal) (codes "no" ∷ codes "/machine/sysclk" ∷ codes "/machine/peripheral" ∷ codes "" ∷ [])
    ≡ Some E33 ∷ Some E33 ∷ Some E33 ∷ Some E33 ∷ []
unfolding types opening_board path_down_to attached drop_slot finish finalize finalize_within let_go pin unpin add set cut acted period clocks_below depth_of
    is_going plug plugged post after_hold released pulse least unrealize apart_within detach reset_whole
refused-codes = refl

again : (asked asked_once (codes "br")).refusal ≡ Some E34
unfolding types opening_board path_down_to attached drop_slot finish finalize finalize_within let_go pin unpin add set cut acted period clocks_below depth_of
    is_going plug plugged post after_hold released pulse least unrealize apart_within detach reset_whole
again = refl

full : (asked (record one { notices = replicate 64 (record { plug = true; birth = 9 }) }) (codes "br")).refusal ≡ Some E44
unfolding types opening_board path_down_to attached drop_slot finish finalize finalize_within let_go pin unpin add set cut acted period clocks_below depth_of
    is_going plug plugged post after_hold released pulse least unrealize apart_within detach reset_whole
full = refl

out : (asked_of (detach one 9) 9).refusal ≡ Some E35
unfolding types opening_board path_down_to attached drop_slot finish finalize finalize_within let_go pin unpin add set cut acted period clocks_below depth_of
    is_going plug plugged post after_hold released pulse least unrealize apart_within detach reset_whole
out = refl

-- the guest refuses it, and lets it go
stays : map said (refused asked_once 9).notices ≡ (true, 9) ∷ []
unfolding types opening_board path_down_to attached drop_slot finish finalize finalize_within let_go pin unpin add set cut acted period clocks_below depth_of
    is_going plug plugged post after_hold released pulse least unrealize apart_within detach reset_whole
stays = refl

none-pending : (refused asked_once 9).pending ≡ []
unfolding types opening_board path_down_to attached drop_slot finish finalize finalize_within let_go pin unpin add set cut acted period clocks_below depth_of
    is_going plug plugged post after_hold released pulse least unrealize apart_within detach reset_whole
none-pending = refl

event : map told (refused asked_once 9).events ≡ (false, Some (codes "br"), codes "/machine/peripheral/br") ∷ []
unfolding types opening_board path_down_to attached drop_slot finish finalize finalize_within let_go pin unpin add set cut acted period clocks_below depth_of
    is_going plug plugged post after_hold released pulse least unrealize apart_within detach reset_whole
event = refl

gone : (completed asked_once 9).records ≡ opening_board.records
unfolding types opening_board path_down_to attached drop_slot finish finalize finalize_within let_go pin unpin add set cut acted period clocks_below depth_of
    is_going plug plugged post after_hold released pulse least unrealize apart_within detach reset_whole
gone = refl

-- two that are pending go in order where the board is reset
reset-events : map told (reset_whole both_asked).events
    ≡ (true, Some (codes "br"), codes "/machine/peripheral/br") ∷ (true, Some (codes "c"), codes "/machine/peripheral/c") ∷ []
unfolding types opening_board path_down_to attached drop_slot finish finalize finalize_within let_go pin unpin add set cut acted period clocks_below depth_of
    is_going plug plugged post after_hold released pulse least unrealize apart_within detach reset_whole
reset-events = refl

reset-rest : births (reset_whole both_asked) ≡ births opening_board
unfolding types opening_board path_down_to attached drop_slot finish finalize finalize_within let_go pin unpin add set cut acted period clocks_below depth_of
    is_going plug plugged post after_hold released pulse least unrealize apart_within detach reset_whole
reset-rest = refl

-- asked for again: too early by a nanosecond, and then in time, at its old place, by a notice more
abbrev at_time : ℕ → Board → Board
at_time now b = record b { now = now }

early : (asked (at_time 4999999999 asked_once) (codes "br")).refusal ≡ Some E34
unfolding types opening_board path_down_to attached drop_slot finish finalize finalize_within let_go pin unpin add set cut acted period clocks_below depth_of
    is_going plug plugged post after_hold released pulse least unrealize apart_within detach reset_whole
early = refl

in-time : (asked (at_time 5000000000 both_asked) (codes "br")).board.pending ≡ record { birth = 9; asked = 5000000000 } ∷ record { birth = 12; asked = 0 } ∷ []
unfolding types opening_board path_down_to attached drop_slot finish finalize finalize_within let_go pin unpin add set cut acted period clocks_below depth_of
    is_going plug plugged post after_hold released pulse least unrealize apart_within detach reset_whole
in-time = refl

told-twice : map said (asked (at_time 5000000000 asked_once) (codes "br")).board.notices ≡ (true, 9) ∷ (false, 9) ∷ (false, 9) ∷ []
unfolding types opening_board path_down_to attached drop_slot finish finalize finalize_within let_go pin unpin add set cut acted period clocks_below depth_of
    is_going plug plugged post after_hold released pulse least unrealize apart_within detach reset_whole
told-twice = refl

all-told-less : map said (refused (asked (at_time 5000000000 asked_once) (codes "br")).board 9).notices ≡ (true, 9) ∷ []
unfolding types opening_board path_down_to attached drop_slot finish finalize finalize_within let_go pin unpin add set cut acted period clocks_below depth_of
    is_going plug plugged post after_hold released pulse least unrealize apart_within detach reset_whole
all-told-less = refl
