-- Inboxes, sends and rooms, and what the definitions say of them. Each row is computed.
use Rattle.std.specs.Prelude.{◌≡◌, refl, ℕ, List, true, false, [], ◌∷◌}
use Rattle.std.specs.BTreeSet.{insert_key}
use Rattle.std.specs.Ordering.{nat_cmp}
use Rattle.node_inbox.specs.Inboxes.{Waiting, is_waiting, queue_of, room_of, senders_of}
use Rattle.node_inbox.specs.Queues.{with_queue, without_sender}
use Rattle.node_inbox.specs.Sends.{is_alive, is_reached, packets_to}

-- one item waits from node 3, and two from node 7
abbrev three_and_seven : Waiting ℕ
three_and_seven = (3, 30 ∷ []) ∷ (7, 70 ∷ 71 ∷ []) ∷ []

-- two items go to node 2, and one to node 1
abbrev sends : List (ℕ × ℕ)
sends = (2, 20) ∷ (1, 10) ∷ (2, 21) ∷ []

from_seven : queue_of three_and_seven 7 ≡ 70 ∷ 71 ∷ []
from_seven = refl

nothing_from_four : queue_of three_and_seven 4 ≡ []
nothing_from_four = refl

both_senders : senders_of three_and_seven ≡ 3 ∷ 7 ∷ []
both_senders = refl

four_is_not_waiting : is_waiting three_and_seven 4 ≡ false
four_is_not_waiting = refl

empty_queues_are_not_seen : with_queue 1 [] three_and_seven ≡ three_and_seven
empty_queues_are_not_seen = refl

five_comes_between : insert_key nat_cmp (3 ∷ 7 ∷ []) 5 ≡ 3 ∷ 5 ∷ 7 ∷ []
five_comes_between = refl

seven_is_there_once : insert_key nat_cmp (3 ∷ 7 ∷ []) 7 ≡ 3 ∷ 7 ∷ []
seven_is_there_once = refl

without_seven : without_sender 7 (3 ∷ 7 ∷ 9 ∷ []) ≡ 3 ∷ 9 ∷ []
without_seven = refl

room_for_seven : room_of ((3, 0) ∷ (7, 2) ∷ []) 7 ≡ 2
room_for_seven = refl

no_room_without_a_queue : room_of ((3, 0) ∷ (7, 2) ∷ []) 5 ≡ 0
no_room_without_a_queue = refl

two_go_to_two : packets_to 2 sends ≡ 20 ∷ 21 ∷ []
two_go_to_two = refl

one_does_not_live : is_reached (true ∷ false ∷ true ∷ []) sends 1 ≡ false
one_does_not_live = refl

no_node_past_the_end_lives : is_alive (true ∷ []) 1 ≡ false
no_node_past_the_end_lives = refl
