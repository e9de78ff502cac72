use Rattle.net_groups.proofs.Rooms.{room_all}
use Rattle.net_groups.proofs.splitting.room_beside.Goals as goal

pub returns-clause-room : goal.returns-clause-room
returns-clause-room g c = room_all c.split_room.result c.args.tasks.now c.args.element c.most_beside.result c.split_room.ensures.room c.most_beside.ensures
