mod Turning
